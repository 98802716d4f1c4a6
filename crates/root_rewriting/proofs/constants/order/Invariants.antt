use Rattle.std.proofs.Common.{length}
use Rattle.root_rewriting.proofs.Tables.{InOrder}
use Rattle.root_rewriting.proofs.constants.order.Given as goal

abbrev pub invariant-loop-rest : goal.invariant-loop-rest
invariant-loop-rest l = InOrder l.source l.found l.assertions l.rest

abbrev pub decreases-loop-rest : goal.decreases-loop-rest
decreases-loop-rest l = length l.rest
