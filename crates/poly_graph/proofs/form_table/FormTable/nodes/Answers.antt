use Rattle.std.proofs.Common.{subst}
use Rattle.poly_graph.specs.FormGraph.{IsFormGraph}
use Rattle.poly_graph.proofs.SharedForm.{shared_is_form_graph}
use Rattle.poly_graph.proofs.form_table.FormTable.nodes.Goals as goal

pub returns-clause-graph : goal.returns-clause-graph
returns-clause-graph c = subst IsFormGraph c.self.view_is (shared_is_form_graph c.self.inside.nodes.items c.self.inside.numbers c.self.inside.size c.self.invariant)
