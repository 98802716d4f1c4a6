use Rattle.std.proofs.Common.{◌-◌}
use Rattle.cert_least.specs.Feeding.{bytes_taken}
use Rattle.dpoly.proofs.GoalUpgrading.{GoalKeptSoFar}
use Rattle.dpoly.proofs.upgrade_goal.kept_by.Given as goal

abbrev pub invariant-loop-n : goal.invariant-loop-n
invariant-loop-n g l = GoalKeptSoFar l.problem l.goal l.fn.bound l.feed l.kept.items (g.D.Desk.sight l.fn.desk) (g.D.Desk.sight l.desk)

abbrev pub decreases-loop-n : goal.decreases-loop-n
decreases-loop-n g l = 18446744073709551615 - bytes_taken l.feed
