use Rattle.cert_resumed.proofs.Refined
use Rattle.cert_resumed.proofs.graft_refines.Goals as goal

pub returns : goal.returns
returns c = Refined.graft_refines
