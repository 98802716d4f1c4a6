use Rattle.std.proofs.Common.{rules}
use Rattle.steal_pool.proofs.Counts.{rests}
use Rattle.steal_pool.proofs.count.CountSeat.rest.Goals as goal

pub fetch_add-requires : goal.fetch_add-requires
fetch_add-requires c = (search rules, search rules, rests _ _ _ _ c.requires)
