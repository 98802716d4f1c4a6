use Rattle.cert_model.proofs.Means.{cover_derived}
use Rattle.cert_model.proofs.cover_is_derived.Goals as goal

pub returns : goal.returns
returns c = cover_derived
