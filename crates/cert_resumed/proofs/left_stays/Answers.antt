use Rattle.cert_resumed.proofs.Stays
use Rattle.cert_resumed.proofs.left_stays.Goals as goal

pub returns : goal.returns
returns c = Stays.left_stays
