use Rattle.std.proofs.Common.{map, subst, List, ℕ}
use Rattle.poly_graph.specs.Views.{kind_of}
use Rattle.smt_sexp.specs.Views.{place_of}
use Rattle.term_build.specs.Pairs.{compared}
use Rattle.term_build.specs.Shapes.{sketch_of}
use Rattle.value_build.specs.Chains.{Comparing}
use Rattle.value_build.proofs.Folds.{nil_of}
use Rattle.value_build.proofs.Spreads.{comparing_step, comparing_ended, comparing_done}
use Rattle.value_build.proofs.chains.compare_with.Goals as goal

pub returns-in_err-pair : goal.returns-in_err-pair
returns-in_err-pair c = comparing_ended (kind_of c.args.kind) (place_of c.args.at) (map sketch_of c.args.sketch.now.items) (map sketch_of c.loop-other.sketch.items) (map sketch_of c.compare_two.new.sketch.items) c.args.first c.in-Some.other.now c.args.others.now c.args.made.now.items c.loop-other.made.items _ c.in-Some.later.now c.compare_two.result c.from_residual.result c.from_residual.ensures.0
    (subst (λ (ks : List ℕ). Comparing (compared (kind_of c.args.kind) (place_of c.args.at)) (map sketch_of c.args.sketch.now.items) (map sketch_of c.loop-other.sketch.items) c.args.first c.args.others.now c.args.made.now.items c.loop-other.made.items ks) c.in-Some.ensures.cases.0 c.loop-other.invariant)
    c.compare_two.ensures

pub returns-in_err-push : goal.returns-in_err-push
returns-in_err-push c = comparing_ended (kind_of c.args.kind) (place_of c.args.at) (map sketch_of c.args.sketch.now.items) (map sketch_of c.loop-other.sketch.items) (map sketch_of c.compare_two.new.sketch.items) c.args.first c.in-Some.other.now c.args.others.now c.args.made.now.items c.loop-other.made.items _ c.in-Some.later.now c.compare_two.result c.from_residual-in_err-push.result c.from_residual-in_err-push.ensures.0
    (subst (λ (ks : List ℕ). Comparing (compared (kind_of c.args.kind) (place_of c.args.at)) (map sketch_of c.args.sketch.now.items) (map sketch_of c.loop-other.sketch.items) c.args.first c.args.others.now c.args.made.now.items c.loop-other.made.items ks) c.in-Some.ensures.cases.0 c.loop-other.invariant)
    c.compare_two.ensures

pub loop-other-preserved : goal.loop-other-preserved
loop-other-preserved c = comparing_step (kind_of c.args.kind) (place_of c.args.at) (map sketch_of c.args.sketch.now.items) (map sketch_of c.loop-other.sketch.items) (map sketch_of c.compare_two.new.sketch.items) c.args.first c.in-Some.other.now c.args.others.now c.args.made.now.items c.loop-other.made.items c.push.new.self.items c.in_ok-pair.pair c.in-Some.later.now c.in_ok-push.ensures.items
    (subst (λ (ks : List ℕ). Comparing (compared (kind_of c.args.kind) (place_of c.args.at)) (map sketch_of c.args.sketch.now.items) (map sketch_of c.loop-other.sketch.items) c.args.first c.args.others.now c.args.made.now.items c.loop-other.made.items ks) c.in-Some.ensures.cases.0 c.loop-other.invariant)
    c.in_ok-pair.ensures

pub returns : goal.returns
returns c = comparing_done (compared (kind_of c.args.kind) (place_of c.args.at)) (map sketch_of c.args.sketch.now.items) (map sketch_of c.loop-other.sketch.items) c.args.first c.args.others.now c.args.made.now.items c.loop-other.made.items tt
    (subst (λ (ks : List ℕ). Comparing (compared (kind_of c.args.kind) (place_of c.args.at)) (map sketch_of c.args.sketch.now.items) (map sketch_of c.loop-other.sketch.items) c.args.first c.args.others.now c.args.made.now.items c.loop-other.made.items ks) (nil_of c.loop-other.left.now c.in_default.ensures.cases) c.loop-other.invariant)
