use Rattle.cert_joined.proofs.Starts
use Rattle.cert_joined.proofs.accepted_has_header.Goals as goal

pub returns : goal.returns
returns c = Starts.accepted_has_header
