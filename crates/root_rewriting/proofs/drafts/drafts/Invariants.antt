use Rattle.std.proofs.Common.{length}
use Rattle.root_rewriting.proofs.Drafted.{DraftsSoFar}
use Rattle.root_rewriting.proofs.drafts.drafts.Given as goal

abbrev pub invariant-loop-assertion : goal.invariant-loop-assertion
invariant-loop-assertion l = DraftsSoFar (length l.fn.asserted.trees) (length l.fn.table) l.assertion-items l.assertion-index l.initial.drafts.items l.drafts.items
