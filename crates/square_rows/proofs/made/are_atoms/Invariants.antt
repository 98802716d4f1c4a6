use Rattle.std.specs.Prelude.{ℕ, ◌<◌, length}
use Rattle.std.proofs.Common.{get_or}
use Rattle.dyadic.specs.declared.dy.Dy.{Dy}
use Rattle.square_rows.proofs.made.are_atoms.Given as goal

-- those before this one are
abbrev pub invariant-loop-i : goal.invariant-loop-i
invariant-loop-i l = (k : ℕ) (d : ℕ × Dy) → k < l.i → (get_or l.pairs k d).0 < length l.problem.atoms
