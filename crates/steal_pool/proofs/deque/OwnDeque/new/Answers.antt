use Rattle.steal_pool.proofs.Moves.{begins}
use Rattle.steal_pool.proofs.deque.OwnDeque.new.Goals as goal

pub fifo_as-requires : goal.fifo_as-requires
fifo_as-requires c = begins
