use Rattle.cert_model.proofs.Texts
use Rattle.cert_model.proofs.crossing_text_is_accepted.Goals as goal

pub returns : goal.returns
returns c = Texts.crossing_texts
