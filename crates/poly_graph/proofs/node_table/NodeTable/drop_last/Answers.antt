use Rattle.poly_graph.proofs.Cuts.{nodes_cut}
use Rattle.poly_graph.proofs.node_table.NodeTable.drop_last.Goals as goal

pub invariant_of-self : goal.invariant_of-self
invariant_of-self c = nodes_cut c.self.inside.nodes.items c.pop.new.self.items c.in-Some.node c.self.inside.numbers c.remove.new.self c.in-Some.ensures.items c.self.invariant c.remove.ensures.updates
