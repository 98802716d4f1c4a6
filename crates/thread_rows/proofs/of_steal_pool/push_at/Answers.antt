use Rattle.steal_pool.proofs.Places.{pool_set, stay_set}
use Rattle.thread_rows.proofs.of_steal_pool.push_at.Goals as goal

pub returns : goal.returns
returns c = (
  pool_set c.args.hands.now c.args.k c.index-hands-k.result c.push.new.self c.push.ensures.place c.requires.0 c.requires.1,
  stay_set c.args.hands.now c.args.k c.push.new.self c.push.ensures.stays c.requires.0 c.requires.2,
)
