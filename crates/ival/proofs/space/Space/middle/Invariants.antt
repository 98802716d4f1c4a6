use Rattle.std.proofs.Common.{◌≡◌}
use Rattle.ival.specs.SpaceViews.{space_of, capacity_of}
use Rattle.ival.proofs.Lists.{middles}
use Rattle.ival.proofs.space.Space.middle.Given as goal

abbrev pub invariant-loop-axis : goal.invariant-loop-axis
invariant-loop-axis l = (space_of l.into ≡ middles l.axis (space_of l.self) (space_of l.initial.into)) × (capacity_of l.into ≡ capacity_of l.initial.into)
