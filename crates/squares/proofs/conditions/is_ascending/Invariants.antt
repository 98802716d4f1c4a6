use Rattle.std.proofs.Common.{◌≡◌, drop}
use Rattle.square_model.specs.Block.{is_ascending}
use Rattle.squares.proofs.conditions.is_ascending.Given as goal

-- what holds of the axes from this one on holds of all
abbrev pub invariant-loop-place : goal.invariant-loop-place
invariant-loop-place l = is_ascending (drop l.place l.monomial) ≡ is_ascending l.monomial
