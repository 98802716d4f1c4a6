use Rattle.steal_pool.proofs.Moves.{takes}
use Rattle.steal_pool.proofs.deque.OwnDeque.take.Goals as goal

pub pop_as-requires-clause-fifo : goal.pop_as-requires-clause-fifo
pop_as-requires-clause-fifo c = λ _. takes _ _ 1 c.args.self.now.some_part
