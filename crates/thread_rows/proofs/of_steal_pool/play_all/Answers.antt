use Rattle.steal_pool.proofs.Places.{still_pool}
use Rattle.thread_rows.proofs.of_steal_pool.play_all.Goals as goal

pub returns : goal.returns
returns g c = still_pool c.loop-id.hands c.run_all.new.hands c.loop-id.invariant.0 c.run_all.ensures
