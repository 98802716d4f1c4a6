use Rattle.cert_model.proofs.Writes
use Rattle.cert_model.proofs.point_is_accepted.Goals as goal

pub returns : goal.returns
returns c = λ p b s. Writes.point_accepted p b s
