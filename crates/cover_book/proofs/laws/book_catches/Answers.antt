use Rattle.cover_book.proofs.Meaning
use Rattle.cover_book.proofs.laws.book_catches.Goals as goal

pub returns : goal.returns
returns c = Meaning.book_catches
