use Rattle.std.proofs.Common.{◌-◌}
use Rattle.cert_check.specs.Feeding.{bytes_taken}
use Rattle.dpoly.proofs.ReadAlone.{CheckedAt}
use Rattle.dpoly.proofs.alone.verdict_by.Given as goal

abbrev pub invariant-loop-n : goal.invariant-loop-n
invariant-loop-n g l = CheckedAt l.problem l.fn.bound l.fn.number l.feed l.at (g.D.Desk.sight l.fn.desk) (g.D.Desk.sight l.desk)

abbrev pub decreases-loop-n : goal.decreases-loop-n
decreases-loop-n g l = 18446744073709551615 - bytes_taken l.feed
