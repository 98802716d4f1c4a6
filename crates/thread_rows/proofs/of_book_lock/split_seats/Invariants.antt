use Rattle.std.proofs.Common.{◌≡◌, ◌+◌, All, vec_len, vec_capacity}
use Rattle.book_lock.specs.Shared.{IsSeatOf, IsOnePartSeatOf, view}
use Rattle.thread_rows.proofs.of_book_lock.split_seats.Given as goal

abbrev pub invariant-loop : goal.invariant-loop
invariant-loop l = record {
  own : IsSeatOf l.shared l.seat;
  seats : All (IsOnePartSeatOf l.shared) l.seats.items;
  count : vec_len l.seats ≡ l.counter;
  room : vec_capacity l.seats ≡ vec_capacity l.initial.seats;
  parts : (view l.seat).parts + l.counter ≡ (view l.initial.seat).parts;
}
