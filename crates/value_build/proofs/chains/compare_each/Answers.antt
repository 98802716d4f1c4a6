use Rattle.std.proofs.Common.{map, subst, List, ℕ, Vec, Global, Ok}
use Rattle.poly_graph.specs.Views.{kind_of}
use Rattle.smt_sexp.specs.Views.{place_of}
use Rattle.term_build.specs.Pairs.{compared}
use Rattle.term_build.specs.Shapes.{sketch_of}
use Rattle.term_build.specs.declared.connectives.Pair.{Pair}
use Rattle.value_build.specs.Chains.{AddsComparisons, Spreading}
use Rattle.value_build.proofs.Folds.{nil_of}
use Rattle.value_build.proofs.Spreads.{spreading_step, spreading_ended, spreading_done}
use Rattle.value_build.proofs.chains.compare_each.Goals as goal

pub returns-in_err-compare_with : goal.returns-in_err-compare_with
returns-in_err-compare_with c = let f = compared (kind_of c.args.kind) (place_of c.args.at) in
    spreading_ended (λ (ps : Vec Pair Global). ps.items) c.args.spread f (map sketch_of c.args.sketch.now.items) (map sketch_of c.loop-first.sketch.items) (map sketch_of c.compare_with.new.sketch.items) c.in-Some.first.now c.args.nodes.now c.in-Some.later.now c.loop-first.made.items c.compare_with.new.made.items c.compare_with.result c.from_residual.result c.from_residual.ensures.0
    (subst (λ (ks : List ℕ). Spreading c.args.spread f (map sketch_of c.args.sketch.now.items) (map sketch_of c.loop-first.sketch.items) c.args.nodes.now c.loop-first.made.items ks) c.in-Some.ensures.cases.0 c.loop-first.invariant)
    (subst (λ (ks : List ℕ). AddsComparisons f (map sketch_of c.loop-first.sketch.items) (map sketch_of c.compare_with.new.sketch.items) c.in-Some.first.now ks c.loop-first.made.items c.compare_with.new.made.items c.compare_with.result) c.others_of.ensures c.compare_with.ensures)

pub loop-first-preserved : goal.loop-first-preserved
loop-first-preserved c = let f = compared (kind_of c.args.kind) (place_of c.args.at) in
    spreading_step c.args.spread f (map sketch_of c.args.sketch.now.items) (map sketch_of c.loop-first.sketch.items) (map sketch_of c.compare_with.new.sketch.items) c.in-Some.first.now c.args.nodes.now c.in-Some.later.now c.loop-first.made.items c.compare_with.new.made.items c.in_ok-compare_with.field-0
    (subst (λ (ks : List ℕ). Spreading c.args.spread f (map sketch_of c.args.sketch.now.items) (map sketch_of c.loop-first.sketch.items) c.args.nodes.now c.loop-first.made.items ks) c.in-Some.ensures.cases.0 c.loop-first.invariant)
    (subst (λ (ks : List ℕ). AddsComparisons f (map sketch_of c.loop-first.sketch.items) (map sketch_of c.compare_with.new.sketch.items) c.in-Some.first.now ks c.loop-first.made.items c.compare_with.new.made.items (Ok c.in_ok-compare_with.field-0)) c.others_of.ensures c.in_ok-compare_with.ensures)

pub returns : goal.returns
returns c = let f = compared (kind_of c.args.kind) (place_of c.args.at) in
    spreading_done (λ (ps : Vec Pair Global). ps.items) c.args.spread f (map sketch_of c.args.sketch.now.items) (map sketch_of c.loop-first.sketch.items) c.args.nodes.now c.loop-first.made
    (subst (λ (ks : List ℕ). Spreading c.args.spread f (map sketch_of c.args.sketch.now.items) (map sketch_of c.loop-first.sketch.items) c.args.nodes.now c.loop-first.made.items ks) (nil_of c.loop-first.left.now c.in_default.ensures.cases) c.loop-first.invariant)
