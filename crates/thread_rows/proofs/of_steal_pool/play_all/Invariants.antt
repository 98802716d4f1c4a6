use Rattle.steal_pool.specs.Pool.{IsPool, AllStay}
use Rattle.thread_rows.proofs.of_steal_pool.play_all.Given as goal

abbrev pub invariant-loop-id : goal.invariant-loop-id
invariant-loop-id g l = IsPool l.hands × AllStay l.hands
