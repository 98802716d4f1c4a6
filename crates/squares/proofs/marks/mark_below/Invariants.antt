use Rattle.std.proofs.Common.{◌≡◌, ◌≤◌, length}
use Rattle.square_model.specs.Positive.{marked_below}
use Rattle.squares.proofs.marks.mark_below.Given as goal

-- what is left to visit makes the same marks
abbrev pub invariant-loop-left : goal.invariant-loop-left
invariant-loop-left l = record {
  inside : l.left ≤ length l.graph;
  count : length l.marks ≡ length l.graph;
  same : marked_below l.graph l.left l.marks ≡ marked_below l.graph (length l.graph) l.fn.marks;
}

abbrev pub decreases-loop-left : goal.decreases-loop-left
decreases-loop-left l = l.left
