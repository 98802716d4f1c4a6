use Rattle.std.proofs.Common.{◌≡◌, length, ◌-◌}
use Rattle.clause_search.specs.Watches.{IsWatching}
use Rattle.clause_search.proofs.watches.Watches.visit_all.Given as goal

abbrev pub invariant-loop-self : goal.invariant-loop-self
invariant-loop-self l = IsWatching l.cnf l.values l.self × (l.self.started ≡ length l.cnf.clauses)

abbrev pub decreases-loop-self : goal.decreases-loop-self
decreases-loop-self l = length l.self.queue.items - l.self.next
