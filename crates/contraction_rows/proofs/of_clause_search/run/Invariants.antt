use Rattle.clause_search.specs.Trail.{IsTrailOf}
use Rattle.contraction_rows.proofs.of_clause_search.run.Given as goal

abbrev pub invariant-loop : goal.invariant-loop
invariant-loop l = IsTrailOf l.cnf l.trail
