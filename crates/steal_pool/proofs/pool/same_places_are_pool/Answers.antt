use Rattle.steal_pool.proofs.Places.{still_pool}
use Rattle.std.proofs.Common.{arith}
use Rattle.steal_pool.proofs.pool.same_places_are_pool.Goals as goal

pub returns : goal.returns
returns c = grind (arith, still_pool)
