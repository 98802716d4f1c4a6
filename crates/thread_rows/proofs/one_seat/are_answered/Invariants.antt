use Rattle.book_lock.specs.Shared.{IsOnePartSeatOf}
use Rattle.thread_rows.proofs.one_seat.are_answered.Given as goal

abbrev pub invariant-loop-cut : goal.invariant-loop-cut
invariant-loop-cut g l = IsOnePartSeatOf l.shared l.seat
