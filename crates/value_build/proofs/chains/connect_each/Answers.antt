use Rattle.std.proofs.Common.{map, subst, sym, List, Vec, Global, Ok}
use Rattle.term_build.specs.Shapes.{sketch_of}
use Rattle.term_build.specs.declared.connectives.Pair.{Pair}
use Rattle.value_build.specs.Chains.{AddsConnected, ConnectingEach, two_of}
use Rattle.value_build.proofs.Folds.{nil_of}
use Rattle.value_build.proofs.Spreads.{each_begun, each_step, each_ended, each_done}
use Rattle.value_build.proofs.chains.connect_each.Goals as goal

pub loop-first-init : goal.loop-first-init
loop-first-init c = subst (λ (ps : List Pair). ConnectingEach c.args.spread (two_of c.args.spread) (map sketch_of c.args.sketch.now.items) (map sketch_of c.args.sketch.now.items) c.args.pairs.now ps c.args.pairs.now) (sym c.new-made.ensures.items)
    (each_begun c.args.spread (two_of c.args.spread) (map sketch_of c.args.sketch.now.items) c.args.pairs.now)

pub returns-in_err-connect_with : goal.returns-in_err-connect_with
returns-in_err-connect_with c = let f = two_of c.args.spread in
    each_ended (λ (ps : Vec Pair Global). ps.items) c.args.spread f (map sketch_of c.args.sketch.now.items) (map sketch_of c.loop-first.sketch.items) (map sketch_of c.connect_with.new.sketch.items) c.in-Some.first.now c.args.pairs.now c.in-Some.later.now c.loop-first.made.items c.connect_with.new.made.items c.connect_with.result c.from_residual.result c.from_residual.ensures.0
    (subst (λ (ks : List Pair). ConnectingEach c.args.spread f (map sketch_of c.args.sketch.now.items) (map sketch_of c.loop-first.sketch.items) c.args.pairs.now c.loop-first.made.items ks) c.in-Some.ensures.cases.0 c.loop-first.invariant)
    (subst (λ (ks : List Pair). AddsConnected f (map sketch_of c.loop-first.sketch.items) (map sketch_of c.connect_with.new.sketch.items) c.in-Some.first.now ks c.loop-first.made.items c.connect_with.new.made.items c.connect_with.result) c.others_of.ensures c.connect_with.ensures)

pub loop-first-preserved : goal.loop-first-preserved
loop-first-preserved c = let f = two_of c.args.spread in
    each_step c.args.spread f (map sketch_of c.args.sketch.now.items) (map sketch_of c.loop-first.sketch.items) (map sketch_of c.connect_with.new.sketch.items) c.in-Some.first.now c.args.pairs.now c.in-Some.later.now c.loop-first.made.items c.connect_with.new.made.items c.in_ok-connect_with.field-0
    (subst (λ (ks : List Pair). ConnectingEach c.args.spread f (map sketch_of c.args.sketch.now.items) (map sketch_of c.loop-first.sketch.items) c.args.pairs.now c.loop-first.made.items ks) c.in-Some.ensures.cases.0 c.loop-first.invariant)
    (subst (λ (ks : List Pair). AddsConnected f (map sketch_of c.loop-first.sketch.items) (map sketch_of c.connect_with.new.sketch.items) c.in-Some.first.now ks c.loop-first.made.items c.connect_with.new.made.items (Ok c.in_ok-connect_with.field-0)) c.others_of.ensures c.in_ok-connect_with.ensures)

pub returns : goal.returns
returns c = let f = two_of c.args.spread in
    each_done (λ (ps : Vec Pair Global). ps.items) c.args.spread f (map sketch_of c.args.sketch.now.items) (map sketch_of c.loop-first.sketch.items) c.args.pairs.now c.loop-first.made
    (subst (λ (ks : List Pair). ConnectingEach c.args.spread f (map sketch_of c.args.sketch.now.items) (map sketch_of c.loop-first.sketch.items) c.args.pairs.now c.loop-first.made.items ks) (nil_of c.loop-first.left.now c.in_default.ensures.cases) c.loop-first.invariant)
