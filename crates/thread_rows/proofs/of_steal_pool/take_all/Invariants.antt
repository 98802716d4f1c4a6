use Rattle.std.proofs.Common.{◌≡◌, false}
use Rattle.steal_pool.specs.Account.{has_left, place_of}
use Rattle.thread_rows.proofs.of_steal_pool.take_all.Given as goal

abbrev pub invariant-loop : goal.invariant-loop
invariant-loop g l = (place_of l.hand ≡ place_of l.initial.hand) × (has_left l.hand ≡ false)
