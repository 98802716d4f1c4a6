use Rattle.cert_model.proofs.SessionMeans
use Rattle.cert_model.proofs.session_means.Goals as goal

pub returns : goal.returns
returns c = SessionMeans.session_means
