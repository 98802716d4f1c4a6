-- Workers, each with a second seat at which it may ask for lemmas.
use Rattle.std.specs.Prelude.{◌≡◌}
use Rattle.book_lock.specs.declared.shared.SharedBook.{SharedBook}
use Rattle.book_lock.specs.Shared.{IsOnePartSeatOf}
use Rattle.solve_core.specs.declared.asker.BookLemmas.{BookLemmas}
use Rattle.solve_core.specs.declared.member.Member.{Member}
use Rattle.solve_core.specs.Workers.{IsWorkerOf, HasSeatOf}

-- it asks this book, at a seat with one part
pub record AsksAt (s : SharedBook) (a : BookLemmas) : Type 0 where
  pub shared : a.shared.now ≡ s
  pub seat : IsOnePartSeatOf s a.seat

-- a worker on the book, which may ask it
pub record IsMemberOf (s : SharedBook) (m : Member) : Type 0 where
  pub worker : IsWorkerOf s m.worker
  pub asker : AsksAt s m.asker

-- both of its seats are of the book, with one part each
pub record HasSeatsOf (s : SharedBook) (m : Member) : Type 0 where
  pub worker : HasSeatOf s m.worker
  pub asker : IsOnePartSeatOf s m.asker.seat
