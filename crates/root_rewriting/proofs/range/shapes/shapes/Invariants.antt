use Rattle.std.proofs.Common.{◌≡◌, length, map, take}
use Rattle.root_rewriting.specs.Nodes.{trees_in}
use Rattle.script_roots.specs.TreeBounds.{Axes, tree_in}
use Rattle.root_rewriting.specs.Shapes.{KnowsAxes, shape_of, without_ends}
use Rattle.root_rewriting.proofs.range.shapes.shapes.Given as goal

abbrev pub invariant-loop-k : goal.invariant-loop-k
invariant-loop-k l = (length l.done.items ≡ l.k) × ((A : Axes) → KnowsAxes l.axes A → map shape_of l.done.items ≡ take l.k (map (λ t. without_ends (tree_in A t)) (trees_in l.trees)))
