use Rattle.cover_book.proofs.Raised.{raised_is_book}
use Rattle.cover_book.proofs.book.Book.raise.Goals as goal

pub invariant_of-self : goal.invariant_of-self
invariant_of-self c = raised_is_book _ c.self.invariant
