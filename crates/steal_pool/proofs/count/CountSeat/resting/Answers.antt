use Rattle.std.proofs.Common.{rules}
use Rattle.steal_pool.proofs.Counts.{reads}
use Rattle.steal_pool.proofs.count.CountSeat.resting.Goals as goal

pub load-requires : goal.load-requires
load-requires c = (search rules, search rules, reads _ _ _ _)
