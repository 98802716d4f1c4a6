use Rattle.std.proofs.Common.{rules}
use Rattle.steal_pool.proofs.Counts.{cuts}
use Rattle.steal_pool.proofs.count.CountSeat.hand_seat.Goals as goal

pub split_seat-seat-requires : goal.split_seat-seat-requires
split_seat-seat-requires c = (search rules, search rules, cuts _ _ _ c.requires.0 c.requires.1)
