use Rattle.std.proofs.Common.{◌≡◌}
use Rattle.clause_search.specs.Encoding.{first_clauses}
use Rattle.clause_search.proofs.build.clauses.Given as goal

abbrev pub invariant-loop-k : goal.invariant-loop-k
invariant-loop-k l = l.made ≡ first_clauses l.problem l.k
