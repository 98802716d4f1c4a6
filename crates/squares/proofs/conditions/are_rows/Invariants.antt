use Rattle.std.proofs.Common.{◌≡◌, map, drop}
use Rattle.cover_line.specs.Views.{axes_of, numbers_of}
use Rattle.square_model.specs.Block.{are_rows}
use Rattle.squares.proofs.conditions.are_rows.Given as goal

-- what holds of the rows from this one on holds of all
abbrev pub invariant-loop-place : goal.invariant-loop-place
invariant-loop-place l = are_rows (map axes_of (drop l.place l.monomials)) (map numbers_of (drop l.place l.rows)) ≡ are_rows (map axes_of l.monomials) (map numbers_of l.rows)
