use Rattle.std.proofs.Common.{length, ◌-◌}
use Rattle.clause_search.specs.Watches.{IsWatching, SameQueue, list_of}
use Rattle.clause_search.proofs.watches.Watches.visit_list.Given as goal

abbrev pub invariant-loop-self : goal.invariant-loop-self
invariant-loop-self l = IsWatching l.cnf l.values l.self × SameQueue l.fn.self l.self

abbrev pub decreases-loop-self : goal.decreases-loop-self
decreases-loop-self l = length (list_of l.self l.literal) - l.self.at
