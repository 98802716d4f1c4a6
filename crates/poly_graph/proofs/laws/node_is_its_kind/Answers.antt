use Rattle.poly_graph.proofs.Proved.{node_is_its_kind}
use Rattle.poly_graph.proofs.laws.node_is_its_kind.Goals as goal

pub returns : goal.returns
returns c = node_is_its_kind
