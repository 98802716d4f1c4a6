use Rattle.cert_joined.proofs.Texts
use Rattle.cert_joined.proofs.accepted_is_text.Goals as goal

pub returns : goal.returns
returns c = Texts.accepted_is_text
