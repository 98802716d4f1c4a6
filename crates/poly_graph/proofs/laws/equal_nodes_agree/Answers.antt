use Rattle.poly_graph.proofs.Proved.{equal_nodes_agree}
use Rattle.poly_graph.proofs.laws.equal_nodes_agree.Goals as goal

pub returns : goal.returns
returns c = equal_nodes_agree
