use Rattle.std.proofs.Common.{◌+◌, ◌*◌, ◌≤◌}
use Rattle.cover_svg.proofs.frame.Side.unit.Given as goal

abbrev pub invariant-loop-part : goal.invariant-loop-part
invariant-loop-part l = l.unit + 2 * l.part ≤ 8192

abbrev pub decreases-loop-part : goal.decreases-loop-part
decreases-loop-part l = l.part
