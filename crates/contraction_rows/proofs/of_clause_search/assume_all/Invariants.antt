use Rattle.clause_search.specs.Trail.{IsTrailOf}
use Rattle.contraction_rows.proofs.of_clause_search.assume_all.Given as goal

abbrev pub invariant-loop-k : goal.invariant-loop-k
invariant-loop-k l = IsTrailOf l.cnf l.trail
