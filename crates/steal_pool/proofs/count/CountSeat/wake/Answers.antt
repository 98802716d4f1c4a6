use Rattle.std.proofs.Common.{rules}
use Rattle.steal_pool.proofs.Counts.{wakes}
use Rattle.steal_pool.proofs.count.CountSeat.wake.Goals as goal

pub fetch_sub-requires : goal.fetch_sub-requires
fetch_sub-requires c = (search rules, search rules, wakes _ _ _ _ c.requires)
