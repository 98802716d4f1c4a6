use Rattle.root_rewriting.proofs.Drafted.{ClaimsSoFar}
use Rattle.root_rewriting.proofs.drafts.claims.Given as goal

abbrev pub invariant-loop-constant : goal.invariant-loop-constant
invariant-loop-constant l = ClaimsSoFar l.trees l.ranges l.table l.constant l.drafts.items
