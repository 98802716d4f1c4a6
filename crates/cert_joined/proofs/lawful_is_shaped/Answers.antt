use Rattle.cert_joined.proofs.Arities
use Rattle.cert_joined.proofs.lawful_is_shaped.Goals as goal

pub returns : goal.returns
returns c = Arities.lawful_is_shaped
