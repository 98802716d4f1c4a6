use Rattle.std.proofs.Common.{ℕ}
use Rattle.ival.specs.SpaceViews.{space_of}
use Rattle.squares.specs.Views.{terms_of}
use Rattle.squares.proofs.Taking.{IsTakenTo}
use Rattle.squares.proofs.rest.subtract_blocks.Given as goal

abbrev pub invariant-loop-place : goal.invariant-loop-place
invariant-loop-place l = (taken : ℕ) × IsTakenTo (space_of l.space) (space_of l.centre) l.blocks l.place (terms_of l.fn.rest) l.fn.budget.left l.budget.left (terms_of l.rest) taken
