use Rattle.poly_graph.proofs.FormGraphs.{form_node_is_its_kind}
use Rattle.poly_graph.proofs.laws.form_node_is_its_kind.Goals as goal

pub returns : goal.returns
returns c = form_node_is_its_kind
