use Rattle.steal_pool.specs.Links.{AllLookedInVain}
use Rattle.steal_pool.proofs.hand.steal_within.Given as goal

abbrev pub invariant-loop-k : goal.invariant-loop-k
invariant-loop-k g l = AllLookedInVain l.initial.links l.links l.from l.k
