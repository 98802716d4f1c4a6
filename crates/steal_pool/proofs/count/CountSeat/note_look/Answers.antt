use Rattle.std.proofs.Common.{rules, true, false}
use Rattle.steal_pool.proofs.Counts.{looks}
use Rattle.steal_pool.proofs.count.CountSeat.note_look.Goals as goal

pub load-requires : goal.load-requires
load-requires c = (search rules, search rules, looks _ true _ _ _)

pub load-requires-else-found_empty : goal.load-requires-else-found_empty
load-requires-else-found_empty c = (search rules, search rules, looks _ false _ _ _)
