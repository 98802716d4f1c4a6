use Rattle.cover_book.proofs.Meaning
use Rattle.cover_book.proofs.laws.rooted_tree_is_cover.Goals as goal

pub returns : goal.returns
returns c = Meaning.rooted_tree_is_cover
