use Rattle.cover_book.proofs.Raised.{raised_is_book}
use Rattle.cover_book.proofs.laws.raised_is_book.Goals as goal

pub returns : goal.returns
returns c = raised_is_book
