use Rattle.std.proofs.Common.{◌≡◌, drop}
use Rattle.interval_model.specs.Space.{space_within}
use Rattle.ival.specs.SpaceViews.{space_of}
use Rattle.ival.proofs.space.Space.within.Given as goal

-- what is left to compare decides
abbrev pub invariant-loop-axis : goal.invariant-loop-axis
invariant-loop-axis l = space_within (space_of l.self) (space_of l.outer) ≡ space_within (drop l.axis (space_of l.self)) (drop l.axis (space_of l.outer))
