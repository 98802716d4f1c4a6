use Rattle.cover_book.proofs.Kept
use Rattle.cover_book.proofs.laws.steps_keep_book.Goals as goal

pub returns : goal.returns
returns c = Kept.step_keeps_book
