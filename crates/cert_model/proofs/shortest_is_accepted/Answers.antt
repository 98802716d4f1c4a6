use Rattle.cert_model.proofs.FirstPath.{shortest_accepted}
use Rattle.cert_model.proofs.shortest_is_accepted.Goals as goal

pub returns : goal.returns
returns c = λ p b g s h e m. shortest_accepted p b s g h e m
