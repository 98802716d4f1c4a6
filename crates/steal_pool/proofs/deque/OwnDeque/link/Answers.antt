use Rattle.steal_pool.proofs.Moves.{forks}
use Rattle.steal_pool.proofs.deque.OwnDeque.link.Goals as goal

pub another-pass-requires : goal.another-pass-requires
another-pass-requires c = forks _ _ c.requires
