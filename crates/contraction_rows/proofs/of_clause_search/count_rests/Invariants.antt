use Rattle.clause_search.specs.Trail.{IsTrailOf}
use Rattle.contraction_rows.proofs.of_clause_search.count_rests.Given as goal

abbrev pub invariant-loop-bits : goal.invariant-loop-bits
invariant-loop-bits l = IsTrailOf l.cnf l.trail
