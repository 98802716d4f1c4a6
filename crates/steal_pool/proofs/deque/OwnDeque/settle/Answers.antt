use Rattle.steal_pool.proofs.Moves.{learns}
use Rattle.steal_pool.proofs.deque.OwnDeque.settle.Goals as goal

pub len_as-requires : goal.len_as-requires
len_as-requires c = learns _ _ c.args.self.now.owns c.requires
