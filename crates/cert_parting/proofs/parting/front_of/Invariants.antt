use Rattle.std.proofs.Common.{◌-◌, length}
use Rattle.cert_parting.proofs.Partings.{IsFrontRead}
use Rattle.cert_parting.proofs.parting.front_of.Given as goal

abbrev pub invariant-loop-buffer : goal.invariant-loop-buffer
invariant-loop-buffer g l = IsFrontRead l.fn.number l.front.items (g.D.Desk.sight l.fn.desk) (g.D.Desk.sight l.desk)

abbrev pub decreases-loop-buffer : goal.decreases-loop-buffer
decreases-loop-buffer g l = 64 - length l.front.items
