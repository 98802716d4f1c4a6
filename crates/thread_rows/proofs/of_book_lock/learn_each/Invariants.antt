use Rattle.book_lock.specs.Shared.{IsOnePartSeatOf}
use Rattle.thread_rows.proofs.of_book_lock.learn_each.Given as goal

abbrev pub invariant-loop : goal.invariant-loop
invariant-loop g l = IsOnePartSeatOf l.lessons.shared.now l.seat
