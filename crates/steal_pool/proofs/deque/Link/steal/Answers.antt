use Rattle.std.proofs.Common.{arith}
use Rattle.steal_pool.proofs.Moves.{takes}
use Rattle.steal_pool.proofs.deque.Link.steal.Goals as goal

pub steal_as-found-requires-clause-takes : goal.steal_as-found-requires-clause-takes
steal_as-found-requires-clause-takes c = takes _ _ 1 (omega (arith, c.args.self.now.one_part))
