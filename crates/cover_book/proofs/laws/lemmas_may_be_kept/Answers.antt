use Rattle.cover_book.proofs.Carries
use Rattle.cover_book.proofs.laws.lemmas_may_be_kept.Goals as goal

pub returns : goal.returns
returns c = Carries.all_lemmas
