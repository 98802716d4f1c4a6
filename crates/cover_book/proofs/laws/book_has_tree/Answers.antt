use Rattle.cover_book.proofs.Meaning
use Rattle.cover_book.proofs.laws.book_has_tree.Goals as goal

pub returns : goal.returns
returns c = Meaning.book_has_tree
