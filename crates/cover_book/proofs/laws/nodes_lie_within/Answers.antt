use Rattle.cover_book.proofs.Meaning
use Rattle.cover_book.proofs.laws.nodes_lie_within.Goals as goal

pub returns : goal.returns
returns c = Meaning.nodes_lie_within
