use Rattle.std.proofs.Common.{◌≡◌, ◌+◌, All, vec_len}
use Rattle.book_lock.specs.Shared.{IsSeatOf, IsOnePartSeatOf, view}
use Rattle.thread_rows.proofs.of_book_lock.join_seats.Given as goal

abbrev pub invariant-loop-other : goal.invariant-loop-other
invariant-loop-other l = record {
  own : IsSeatOf l.shared l.seat;
  seats : All (IsOnePartSeatOf l.shared) l.seats.items;
  parts : (view l.seat).parts + vec_len l.seats ≡ (view l.initial.seat).parts + vec_len l.initial.seats;
}

abbrev pub decreases-loop-other : goal.decreases-loop-other
decreases-loop-other l = vec_len l.seats
