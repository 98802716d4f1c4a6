use Rattle.cert_joined.proofs.Keeping
use Rattle.cert_joined.proofs.keeps_each.Goals as goal

pub returns : goal.returns
returns c = Keeping.keeps_each
