use Rattle.std.proofs.Common.{◌∙◌, [], ap, length, map, sym, subst}
use Rattle.script_roots.specs.Fresh as fresh
use Rattle.script_roots.specs.TreeBounds.{axes_from}
use Rattle.smt_script.specs.Views.{commands_in}
use Rattle.root_rewriting.specs.Nodes.{trees_in}
use Rattle.root_rewriting.proofs.Arena.{nodes_length}
use Rattle.root_rewriting.specs.Bounds.{AreTightest}
use Rattle.root_rewriting.specs.Constants.{constant_of}
use Rattle.root_rewriting.specs.Ends.{ends_of_all}
use Rattle.root_rewriting.specs.Shapes.{AreShapes, KnowsAxes}
use Rattle.root_rewriting.specs.Sweep.{AreConjuncts}
use Rattle.root_rewriting.proofs.Answered.{ok_more}
use Rattle.root_rewriting.proofs.Declared.{say_nothing}
use Rattle.root_rewriting.proofs.Ranged.{declared_from}
use Rattle.root_rewriting.proofs.Shaped.{shapes_many}
use Rattle.root_rewriting.proofs.range.ranges.declared_ranges.Goals as goal

pub marked_ends-requires-clause-marks : goal.marked_ends-requires-clause-marks
marked_ends-requires-clause-marks c = let t = c.args.asserted.now.trees in let A = axes_from 0 [] (map constant_of c.as_slice.result.now) in let knows = c.in_ok-axes.ensures in
    ap length c.as_slice-3.ensures.value ∙ (c.in_ok-marks.ensures A (fresh.asserted (commands_in c.args.script.now)) (say_nothing c.in_ok-axes.axes A knows) c.requires).count ∙ nodes_length t

pub marked_ends-requires-clause-shapes : goal.marked_ends-requires-clause-shapes
marked_ends-requires-clause-shapes c = let t = c.args.asserted.now.trees in let A = axes_from 0 [] (map constant_of c.as_slice.result.now) in let knows = c.in_ok-axes.ensures in
    ap length c.as_slice-2.ensures.value ∙ shapes_many A (trees_in t) c.in_ok-shapes.shapes.items (c.in_ok-shapes.ensures A knows) ∙ nodes_length t

pub returns : goal.returns
returns c =
    let t = c.args.asserted.now.trees in
    let script = commands_in c.args.script.now in
    let M = map constant_of c.as_slice-5.result.now in
    let A = axes_from 0 [] M in
    let es = ends_of_all c.as_slice-4.result.now in
    let knows = subst (KnowsAxes c.in_ok-axes.axes) (ap (λ xs. axes_from 0 [] (map constant_of xs)) (c.as_slice.ensures.value ∙ sym c.as_slice-5.ensures.value)) c.in_ok-axes.ensures in
    let shapes = subst (AreShapes A (trees_in t)) (sym c.as_slice-2.ensures.value) (c.in_ok-shapes.ensures A knows) in
    let conjuncts = subst (AreConjuncts A (trees_in t) (fresh.asserted script)) (sym c.as_slice-3.ensures.value) (c.in_ok-marks.ensures A (fresh.asserted script) (say_nothing c.in_ok-axes.axes A knows) c.requires) in
    let found = ap ends_of_all c.as_slice-4.ensures.value ∙ c.in_ok-ends.ensures A shapes in
    let tight = subst (λ bs. AreTightest es (length c.as_slice-5.result.now) bs) (sym c.as_slice-6.ensures.value)
    (subst (λ n. AreTightest es n c.in_ok-bounds.bounds.items) (c.len.ensures ∙ sym c.as_slice-5.ensures.len) c.in_ok-bounds.ensures) in
    ok_more _ _ (λ m h. declared_from c.args.bound script m M es c.as_slice-3.result.now (trees_in t) (ap (map constant_of) c.as_slice-5.ensures.value ∙ c.in_ok-constants.ensures) found conjuncts h)
    c.ranges-2.result (c.ranges-2.ensures es tight)
