use Rattle.cover_book.proofs.Opens
use Rattle.cover_book.proofs.laws.opening_is_book.Goals as goal

pub returns : goal.returns
returns c = Opens.opening_is_book
