use Rattle.cert_joined.proofs.Keeping
use Rattle.cert_joined.proofs.closed_stays_closed.Goals as goal

pub returns : goal.returns
returns c = Keeping.closed_stays_closed
