use Rattle.steal_pool.specs.Turns.{TakesNothing}
use Rattle.steal_pool.proofs.hand.Hand.next.Given as goal

abbrev pub invariant-loop : goal.invariant-loop
invariant-loop g l = TakesNothing l.initial.self l.self
