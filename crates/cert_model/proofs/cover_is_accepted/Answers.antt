use Rattle.cert_model.proofs.Writes
use Rattle.cert_model.proofs.cover_is_accepted.Goals as goal

pub returns : goal.returns
returns c = λ p b s. Writes.cover_accepted p b s
