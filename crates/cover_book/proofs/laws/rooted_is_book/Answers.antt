use Rattle.cover_book.proofs.Opens
use Rattle.cover_book.proofs.laws.rooted_is_book.Goals as goal

pub returns : goal.returns
returns c = Opens.rooted_is_book
