use Rattle.cert_model.proofs.Writes
use Rattle.cert_model.proofs.crossing_is_accepted.Goals as goal

pub returns : goal.returns
returns c = λ p b s. Writes.crossing_accepted p b s
