use Rattle.std.proofs.Common.{◌≡◌, drop}
use Rattle.interval_model.specs.Space.{widest, widest_from}
use Rattle.ival.specs.SpaceViews.{space_of}
use Rattle.ival.specs.BestViews.{best_of}
use Rattle.ival.proofs.space.Space.widest.Given as goal

-- the axes that are left decide, against the best so far
abbrev pub invariant-loop-axis : goal.invariant-loop-axis
invariant-loop-axis l = widest (space_of l.self) ≡ widest_from l.axis (best_of l.best) (drop l.axis (space_of l.self))
