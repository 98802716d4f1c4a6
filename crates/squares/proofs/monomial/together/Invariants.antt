use Rattle.std.proofs.Common.{◌≡◌, ◌≤◌, length, drop}
use Rattle.square_model.specs.Polynomial.{together}
use Rattle.squares.proofs.monomial.together.Given as goal

abbrev pub invariant-loop-left : goal.invariant-loop-left
invariant-loop-left l = record {
  inside : l.left ≤ length l.first;
  done : l.axes.items ≡ together (drop l.left l.first) l.second;
}

abbrev pub decreases-loop-left : goal.decreases-loop-left
decreases-loop-left l = l.left
