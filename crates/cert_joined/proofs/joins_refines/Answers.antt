use Rattle.cert_joined.proofs.Refining
use Rattle.cert_joined.proofs.joins_refines.Goals as goal

pub returns : goal.returns
returns c = Refining.joins_refines
