use Rattle.std.proofs.Common.{◌≡◌}
use Rattle.ival.specs.SpaceViews.{space_of}
use Rattle.cover_rule.proofs.Axes.{blend}
use Rattle.cover_rule.proofs.narrowing.copy_space.Given as goal

abbrev pub invariant-loop-axis : goal.invariant-loop-axis
invariant-loop-axis l = space_of l.into ≡ blend l.axis (space_of l.from) (space_of l.initial.into)
