use Rattle.std.proofs.Common.{◌-◌}
use Rattle.cert_parting.proofs.Partings.{AgreedSoFar}
use Rattle.cert_parting.proofs.parting.first_parting.Given as goal

abbrev pub invariant-loop-number : goal.invariant-loop-number
invariant-loop-number g l = AgreedSoFar l.first l.number l.count (g.D.Desk.sight l.fn.desk) (g.D.Desk.sight l.desk)

abbrev pub decreases-loop-number : goal.decreases-loop-number
decreases-loop-number g l = l.count - l.number
