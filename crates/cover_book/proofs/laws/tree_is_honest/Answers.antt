use Rattle.cover_book.proofs.Meaning
use Rattle.cover_book.proofs.laws.tree_is_honest.Goals as goal

pub returns : goal.returns
returns c = Meaning.tree_is_honest
