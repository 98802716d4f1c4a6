use Rattle.cert_model.proofs.Means.{point_means}
use Rattle.cert_model.proofs.point_means.Goals as goal

pub returns : goal.returns
returns c = point_means
