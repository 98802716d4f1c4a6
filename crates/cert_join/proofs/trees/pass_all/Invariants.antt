use Rattle.std.proofs.Common.{take}
use Rattle.cert_join.specs.Gathered.{AreDistinct, ArePassed}
use Rattle.cert_join.proofs.trees.pass_all.Given as goal

abbrev pub invariant-loop-part : goal.invariant-loop-part
invariant-loop-part l = AreDistinct l.parts → ArePassed (take l.part-index l.parts) l.fn.cursors l.cursors
