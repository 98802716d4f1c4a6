use Rattle.std.proofs.Common.{◌≡◌, false}
use Rattle.steal_pool.specs.Account.{has_left}
use Rattle.solve_core.proofs.team.offer_all.Given as goal

abbrev pub invariant-loop-node : goal.invariant-loop-node
invariant-loop-node l = has_left l.hand ≡ false
