use Rattle.std.proofs.Common.{◌≡◌, [], map, drop}
use Rattle.cover_line.specs.Views.{axes_of}
use Rattle.dyadic.specs.Views.{dyadic_of}
use Rattle.square_model.specs.Block.{row_given}
use Rattle.squares.specs.Views.{terms_of}
use Rattle.squares.proofs.block.root.Given as goal

-- what is left to give makes the same root
abbrev pub invariant-loop-place : goal.invariant-loop-place
invariant-loop-place l = row_given (map axes_of (drop l.place l.monomials)) (map dyadic_of (drop l.place l.numbers)) (terms_of l.root) ≡ row_given (map axes_of l.monomials) (map dyadic_of l.numbers) []
