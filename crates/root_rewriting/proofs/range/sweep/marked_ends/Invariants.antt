use Rattle.std.proofs.Common.{◌≡◌, take}
use Rattle.root_rewriting.specs.Nodes.{trees_in}
use Rattle.script_roots.specs.TreeBounds.{Axes}
use Rattle.root_rewriting.specs.Ends.{ends_of_all}
use Rattle.root_rewriting.specs.Shapes.{AreShapes}
use Rattle.root_rewriting.specs.Sweep.{marked_ends}
use Rattle.root_rewriting.proofs.range.sweep.marked_ends.Given as goal

abbrev pub invariant-loop-k : goal.invariant-loop-k
invariant-loop-k l = (A : Axes) → AreShapes A (trees_in l.trees) l.shapes → ends_of_all l.ends.items ≡ marked_ends A (take l.k l.marks) (take l.k (trees_in l.trees))
