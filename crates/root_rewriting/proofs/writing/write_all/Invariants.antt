use Rattle.std.proofs.Common.{length}
use Rattle.root_rewriting.proofs.Placing.{WritingSoFar}
use Rattle.root_rewriting.proofs.writing.write_all.Given as goal

abbrev pub invariant-loop-rest : goal.invariant-loop-rest
invariant-loop-rest l = WritingSoFar l.spelling l.drafts l.rest l.writing.writer l.writing.placed.items

abbrev pub decreases-loop-rest : goal.decreases-loop-rest
decreases-loop-rest l = length l.rest
