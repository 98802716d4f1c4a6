use Rattle.cert_joined.proofs.Joining
use Rattle.cert_joined.proofs.joins_lawful.Goals as goal

pub returns : goal.returns
returns c = Joining.joins_lawful
