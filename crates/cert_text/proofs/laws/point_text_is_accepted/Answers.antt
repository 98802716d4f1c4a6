use Rattle.cert_text.proofs.Proved
use Rattle.cert_text.proofs.laws.point_text_is_accepted.Goals as goal

pub returns : goal.returns
returns c = Proved.point_text_is_accepted
