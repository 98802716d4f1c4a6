use Rattle.cert_model.proofs.LeastMeans
use Rattle.cert_model.proofs.upper_holds.Goals as goal

pub returns : goal.returns
returns c = LeastMeans.upper_holds
