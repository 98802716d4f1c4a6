-- Workers that may ask a shared book for its lemmas.
use Rattle.std.specs.Prelude.{◌≡◌}
use Rattle.poly_graph.specs.ProblemViews.{Parts}
use Rattle.cover_data.specs.declared.margins.Margins.{Margins}
use Rattle.cover_book.specs.Keeps.{IsBook}
use Rattle.cover_book.specs.Model.{margins_of}
use Rattle.book_lock.specs.declared.shared.SharedBook.{SharedBook}
use Rattle.book_lock.specs.Shared.{BookSeat, IsOnePartSeatOf, first_of}

-- a seat at a shared book of this problem at these margins
pub record IsAsker (p : Parts) (m : Margins) (s : SharedBook) (at : BookSeat) : Type 0 where
  pub book : IsBook (first_of s)
  pub seat : IsOnePartSeatOf s at
  pub problem : p ≡ (first_of s).problem
  pub margins : m ≡ margins_of (first_of s).options
