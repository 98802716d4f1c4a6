use Rattle.cert_text.proofs.Proved
use Rattle.cert_text.proofs.laws.book_text_is_accepted.Goals as goal

pub returns : goal.returns
returns c = Proved.book_text_is_accepted
