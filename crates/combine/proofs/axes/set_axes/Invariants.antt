use Rattle.std.proofs.Common.{◌≡◌, drop, Some}
use Rattle.cover_model.specs.Combination.{with_intervals}
use Rattle.ival.specs.SpaceViews.{space_of}
use Rattle.combine.specs.Lefts.{pairs}
use Rattle.combine.proofs.axes.set_axes.Given as goal

-- the axes of the parts from this place on are set
abbrev pub invariant-loop-k : goal.invariant-loop-k
invariant-loop-k l = with_intervals (drop l.k (pairs l.parts l.lefts)) (space_of l.initial.space) ≡ Some (space_of l.space)
