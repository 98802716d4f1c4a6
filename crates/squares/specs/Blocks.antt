-- Blocks in code, and what comes of them.
use Rattle.std.specs.Prelude.{◌≡◌, ◌+◌, ◌<◌, [], map, Option, Some, None}
use Rattle.ival.specs.SpaceViews.{space_of}
use Rattle.ival.specs.declared.space.Space.{Space}
use Rattle.square_model.specs.Block.{squares_with, factored, block_polynomial}
use Rattle.square_model.specs.Steps.{Counted, counted, counted_product}
use Rattle.cover_line.specs.declared.block.Block.{Block}
use Rattle.cover_line.specs.declared.block.Factor.{Factor}
use Rattle.cover_line.specs.Views.{axes_of, block_of, factor_of, numbers_of}
use Rattle.squares.specs.Views.{terms_of}
use Rattle.squares.specs.declared.budget.Budget.{Budget}
use Rattle.squares.specs.declared.polynomial.Polynomial.{Polynomial}

-- the polynomial with its steps taken, none where fewer were left
abbrev pub ComesTo : Counted → Budget → Budget → Option Polynomial → Type 0
ComesTo a old new None = old.left < a.steps
ComesTo a old new (Some p) = (terms_of p ≡ a.polynomial) × (new.left + a.steps ≡ old.left)

abbrev pub AddsSquares : Block → Budget → Budget → Option Polynomial → Type 0
AddsSquares b old new p = ComesTo (squares_with (map axes_of b.monomials.items) (map numbers_of b.rows.items) (counted [])) old new p

abbrev pub Multiplies : Polynomial → Polynomial → Budget → Budget → Option Polynomial → Type 0
Multiplies a b old new p = ComesTo (counted_product (counted (terms_of a)) (counted (terms_of b))) old new p

abbrev pub IsFactored : Space → Space → Factor → Counted → Budget → Budget → Option Polynomial → Type 0
IsFactored space centre f q old new p = ComesTo (factored (space_of space) (space_of centre) (factor_of f) q) old new p

abbrev pub IsBlock : Space → Space → Block → Budget → Budget → Option Polynomial → Type 0
IsBlock space centre b old new p = ComesTo (block_polynomial (space_of space) (space_of centre) (block_of b)) old new p
