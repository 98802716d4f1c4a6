use Rattle.cert_model.proofs.LeastMeans
use Rattle.cert_model.proofs.lower_holds.Goals as goal

pub returns : goal.returns
returns c = LeastMeans.lower_holds
