use Rattle.cert_model.proofs.SessionTexts
use Rattle.cert_model.proofs.session_text_is_accepted.Goals as goal

pub returns : goal.returns
returns c = record { accepted = SessionTexts.session_accepted; standing = SessionTexts.session_stands }
