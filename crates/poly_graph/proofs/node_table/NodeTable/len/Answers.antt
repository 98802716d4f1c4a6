use Rattle.std.proofs.Common.{subst}
use Rattle.poly_graph.specs.Shared.{IsGraph}
use Rattle.poly_graph.proofs.Shared.{shared_is_graph}
use Rattle.poly_graph.proofs.node_table.NodeTable.len.Goals as goal

pub returns-clause-graph : goal.returns-clause-graph
returns-clause-graph c = subst IsGraph c.self.view_is (shared_is_graph c.self.inside.nodes.items c.self.inside.numbers c.self.invariant)
