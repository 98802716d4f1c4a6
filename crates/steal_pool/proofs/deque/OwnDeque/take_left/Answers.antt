use Rattle.steal_pool.proofs.Moves.{takes_left, finds_none}
use Rattle.steal_pool.proofs.deque.OwnDeque.take_left.Goals as goal

pub pop_as-requires-clause-fifo : goal.pop_as-requires-clause-fifo
pop_as-requires-clause-fifo c = λ _. takes_left _ _ c.args.self.now.owns c.requires

pub pop_as-requires-clause-empty : goal.pop_as-requires-clause-empty
pop_as-requires-clause-empty c = finds_none _ _ c.args.self.now.owns c.requires
