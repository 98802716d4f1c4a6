use Rattle.std.proofs.Common.{◌≡◌, ℕ, ◌+◌, [], map, drop}
use Rattle.cover_line.specs.Views.{axes_of, numbers_of}
use Rattle.square_model.specs.Block.{squares_with}
use Rattle.square_model.specs.Steps.{counted}
use Rattle.squares.specs.Views.{terms_of}
use Rattle.squares.proofs.block.squares.Given as goal

-- what is left to square makes the same sum, and what was taken are its steps so far
abbrev pub invariant-loop-place : goal.invariant-loop-place
invariant-loop-place l = (taken : ℕ) × (l.budget.left + taken ≡ l.fn.budget.left) × (
    squares_with (map axes_of (drop l.place l.block.monomials.items)) (map numbers_of (drop l.place l.block.rows.items)) (record { polynomial = terms_of l.sum; steps = taken })
    ≡ squares_with (map axes_of l.block.monomials.items) (map numbers_of l.block.rows.items) (counted [])
    )
