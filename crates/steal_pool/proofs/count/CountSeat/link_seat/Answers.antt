use Rattle.std.proofs.Common.{rules}
use Rattle.steal_pool.proofs.Counts.{copies}
use Rattle.steal_pool.proofs.count.CountSeat.link_seat.Goals as goal

pub split_seat-seat-requires : goal.split_seat-seat-requires
split_seat-seat-requires c = (search rules, search rules, copies _ _ _)
