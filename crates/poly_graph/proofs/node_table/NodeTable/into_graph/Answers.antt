use Rattle.poly_graph.proofs.Shared.{shared_is_graph}
use Rattle.poly_graph.proofs.node_table.NodeTable.into_graph.Goals as goal

pub of-requires : goal.of-requires
of-requires c = shared_is_graph c.self.inside.nodes.items c.self.inside.numbers c.self.invariant
