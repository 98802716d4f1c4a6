use Rattle.cert_resumed.proofs.Grows
use Rattle.cert_resumed.proofs.lawful_with_more.Goals as goal

pub returns : goal.returns
returns c = λ p s lemmas more S t rest r. Grows.lawful_with_more p s lemmas more r
