use Rattle.cert_text.proofs.Leftovers
use Rattle.cert_text.proofs.laws.left_tells_of_nodes.Goals as goal

pub returns : goal.returns
returns c = Leftovers.left_tells_of_nodes
