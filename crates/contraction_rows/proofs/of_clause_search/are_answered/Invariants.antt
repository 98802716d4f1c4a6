use Rattle.clause_search.specs.Trail.{IsTrailOf}
use Rattle.contraction_rows.proofs.of_clause_search.are_answered.Given as goal

abbrev pub invariant-loop-step : goal.invariant-loop-step
invariant-loop-step l = IsTrailOf l.cnf l.trail
