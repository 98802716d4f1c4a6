use Rattle.clause_search.specs.Table.{open_count}
use Rattle.clause_search.specs.Trail.{IsTrailOf}
use Rattle.clause_search.specs.Answers.{Grows}
use Rattle.clause_search.proofs.trail.Trail.propagate.Given as goal

abbrev pub invariant-loop-literal : goal.invariant-loop-literal
invariant-loop-literal l = IsTrailOf l.cnf l.self × Grows l.fn.self l.self

abbrev pub decreases-loop-literal : goal.decreases-loop-literal
decreases-loop-literal l = open_count l.self.values
