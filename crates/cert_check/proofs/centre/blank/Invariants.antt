use Rattle.std.proofs.Common.{◌≤◌, ◌-◌, length}
use Rattle.ival.specs.SpaceViews.{space_of, capacity_of}
use Rattle.cert_check.proofs.centre.blank.Given as goal

abbrev pub invariant-loop-space : goal.invariant-loop-space
invariant-loop-space l = record {
  few : length (space_of l.space) ≤ l.count;
  room : l.count ≤ capacity_of l.space;
}

abbrev pub decreases-loop-space : goal.decreases-loop-space
decreases-loop-space l = l.count - length (space_of l.space)
