use Rattle.cover_book.proofs.Carries
use Rattle.cover_book.proofs.laws.carried_is_book.Goals as goal

pub returns : goal.returns
returns c = Carries.carried_is_book
