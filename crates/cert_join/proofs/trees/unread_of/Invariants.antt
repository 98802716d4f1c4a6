use Rattle.std.proofs.Common.{take}
use Rattle.cert_join.specs.Gathered.{AllReady, AreResized}
use Rattle.cert_join.proofs.trees.unread_of.Given as goal

abbrev pub invariant-loop-part : goal.invariant-loop-part
invariant-loop-part l = record { same : AreResized l.fn.cursors l.cursors; ready : AllReady (take l.part-index l.parts) l.cursors }
