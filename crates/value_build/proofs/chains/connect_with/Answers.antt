use Rattle.std.proofs.Common.{map, subst, List}
use Rattle.term_build.specs.Shapes.{sketch_of}
use Rattle.term_build.specs.declared.connectives.Pair.{Pair}
use Rattle.value_build.specs.Chains.{Connecting, two_of}
use Rattle.value_build.proofs.Folds.{nil_of}
use Rattle.value_build.proofs.Spreads.{connecting_begun, connecting_step, connecting_ended, connecting_done}
use Rattle.value_build.proofs.chains.connect_with.Goals as goal

pub loop-other-init : goal.loop-other-init
loop-other-init c = connecting_begun (two_of c.args.spread) (map sketch_of c.args.sketch.now.items) c.args.first c.args.others.now c.args.made.now.items

pub returns-in_err-pair : goal.returns-in_err-pair
returns-in_err-pair c = connecting_ended (two_of c.args.spread) (map sketch_of c.args.sketch.now.items) (map sketch_of c.loop-other.sketch.items) (map sketch_of c.connect_two.new.sketch.items) c.args.first c.in-Some.other.now c.args.others.now c.args.made.now.items c.loop-other.made.items _ c.in-Some.later.now c.connect_two.result c.from_residual.result c.from_residual.ensures.0
    (subst (λ (ks : List Pair). Connecting (two_of c.args.spread) (map sketch_of c.args.sketch.now.items) (map sketch_of c.loop-other.sketch.items) c.args.first c.args.others.now c.args.made.now.items c.loop-other.made.items ks) c.in-Some.ensures.cases.0 c.loop-other.invariant)
    c.connect_two.ensures

pub returns-in_err-push : goal.returns-in_err-push
returns-in_err-push c = connecting_ended (two_of c.args.spread) (map sketch_of c.args.sketch.now.items) (map sketch_of c.loop-other.sketch.items) (map sketch_of c.connect_two.new.sketch.items) c.args.first c.in-Some.other.now c.args.others.now c.args.made.now.items c.loop-other.made.items _ c.in-Some.later.now c.connect_two.result c.from_residual-in_err-push.result c.from_residual-in_err-push.ensures.0
    (subst (λ (ks : List Pair). Connecting (two_of c.args.spread) (map sketch_of c.args.sketch.now.items) (map sketch_of c.loop-other.sketch.items) c.args.first c.args.others.now c.args.made.now.items c.loop-other.made.items ks) c.in-Some.ensures.cases.0 c.loop-other.invariant)
    c.connect_two.ensures

pub loop-other-preserved : goal.loop-other-preserved
loop-other-preserved c = connecting_step (two_of c.args.spread) (map sketch_of c.args.sketch.now.items) (map sketch_of c.loop-other.sketch.items) (map sketch_of c.connect_two.new.sketch.items) c.args.first c.in-Some.other.now c.in_ok-pair.pair c.args.others.now c.args.made.now.items c.loop-other.made.items c.push.new.self.items c.in-Some.later.now c.in_ok-push.ensures.items
    (subst (λ (ks : List Pair). Connecting (two_of c.args.spread) (map sketch_of c.args.sketch.now.items) (map sketch_of c.loop-other.sketch.items) c.args.first c.args.others.now c.args.made.now.items c.loop-other.made.items ks) c.in-Some.ensures.cases.0 c.loop-other.invariant)
    c.in_ok-pair.ensures

pub returns : goal.returns
returns c = connecting_done (two_of c.args.spread) (map sketch_of c.args.sketch.now.items) (map sketch_of c.loop-other.sketch.items) c.args.first c.args.others.now c.args.made.now.items c.loop-other.made.items tt
    (subst (λ (ks : List Pair). Connecting (two_of c.args.spread) (map sketch_of c.args.sketch.now.items) (map sketch_of c.loop-other.sketch.items) c.args.first c.args.others.now c.args.made.now.items c.loop-other.made.items ks) (nil_of c.loop-other.left.now c.in_default.ensures.cases) c.loop-other.invariant)
