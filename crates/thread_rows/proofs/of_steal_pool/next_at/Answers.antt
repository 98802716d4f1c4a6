use Rattle.steal_pool.proofs.Places.{pool_set, stay_set}
use Rattle.thread_rows.proofs.of_steal_pool.next_at.Goals as goal

pub returns : goal.returns
returns g c = (
  pool_set c.args.hands.now c.args.k c.index-hands-k.result c.next.new.self c.next.ensures.place c.requires.0 c.requires.1,
  stay_set c.args.hands.now c.args.k c.next.new.self c.next.ensures.stays c.requires.0 c.requires.2,
)
