use Rattle.std.proofs.Common.{length, ◌-◌}
use Rattle.clause_search.specs.Watches.{IsWatching}
use Rattle.clause_search.proofs.watches.Watches.start_all.Given as goal

abbrev pub invariant-loop-self : goal.invariant-loop-self
invariant-loop-self l = IsWatching l.cnf l.values l.self

abbrev pub decreases-loop-self : goal.decreases-loop-self
decreases-loop-self l = length l.cnf.clauses - l.self.started
