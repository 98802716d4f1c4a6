use Rattle.cert_model.proofs.Last
use Rattle.cert_model.proofs.end_is_last.Goals as goal

pub returns : goal.returns
returns c = Last.end_is_last
