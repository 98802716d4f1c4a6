use Rattle.cover_book.proofs.Grown
use Rattle.cover_book.proofs.laws.conditions_last.Goals as goal

pub returns : goal.returns
returns c = Grown.condition_lasts
