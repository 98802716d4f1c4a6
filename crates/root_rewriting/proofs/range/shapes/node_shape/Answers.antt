use Rattle.std.proofs.Common.{◌≡◌, List, map, ℕ, sym, subst}
use Rattle.std.specs.Prelude.{IfOk}
use Rattle.script_model.specs.Reading.{found, operators}
use Rattle.script_roots.specs.TreeBounds.{applied_in}
use Rattle.root_rewriting.specs.declared.unfold.trees.Node.{Node}
use Rattle.root_rewriting.specs.Shapes.{node_in, shape_at, shape_of, without_ends}
use Rattle.root_rewriting.proofs.range.shapes.node_shape.Goals as goal

pub returns-in-Applied : goal.returns-in-Applied
returns-in-Applied c = λ A knows.
    subst (λ (n : Node). IfOk c.applied_shape.result (λ s. shape_of s ≡ without_ends (node_in A (map shape_of c.args.shapes.now) n))) (sym c.in-Applied.is)
    (subst (λ (ks : List ℕ). IfOk c.applied_shape.result (λ s. shape_of s ≡ without_ends (applied_in (found c.in-Applied.name.now operators) (map (shape_at c.args.shapes.now) ks))))
    c.as_slice.ensures.value c.applied_shape.ensures)
