use Rattle.steal_pool.proofs.Moves.{puts}
use Rattle.steal_pool.proofs.deque.OwnDeque.push.Goals as goal

pub push_as-requires-clause-pushes : goal.push_as-requires-clause-pushes
push_as-requires-clause-pushes c = puts _ _ _ c.args.self.now.owns c.args.self.now.some_part
