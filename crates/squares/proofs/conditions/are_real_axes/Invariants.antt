use Rattle.std.proofs.Common.{◌≡◌, drop}
use Rattle.ival.specs.SpaceViews.{space_of}
use Rattle.square_model.specs.Block.{are_real_axes}
use Rattle.squares.proofs.conditions.are_real_axes.Given as goal

-- what holds of the axes that are left holds of all
abbrev pub invariant-loop-axis : goal.invariant-loop-axis
invariant-loop-axis l = are_real_axes (space_of l.space) (drop l.axis-index l.monomial) ≡ are_real_axes (space_of l.space) l.monomial
