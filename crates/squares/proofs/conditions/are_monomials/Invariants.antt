use Rattle.std.proofs.Common.{◌≡◌, map, drop}
use Rattle.cover_line.specs.Views.{axes_of}
use Rattle.ival.specs.SpaceViews.{space_of}
use Rattle.square_model.specs.Block.{are_monomials}
use Rattle.squares.proofs.conditions.are_monomials.Given as goal

-- what holds of the monomials from this one on holds of all
abbrev pub invariant-loop-place : goal.invariant-loop-place
invariant-loop-place l = are_monomials (space_of l.space) (map axes_of (drop l.place l.monomials)) ≡ are_monomials (space_of l.space) (map axes_of l.monomials)
