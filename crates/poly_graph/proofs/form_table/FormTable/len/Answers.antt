use Rattle.std.proofs.Common.{subst, arith, length, ◌≤◌}
use Rattle.poly_graph.specs.FormGraph.{IsFormGraph}
use Rattle.poly_graph.proofs.SharedForm.{shared_is_form_graph, shared_length}
use Rattle.poly_graph.proofs.form_table.FormTable.len.Goals as goal

pub returns-clause-graph : goal.returns-clause-graph
returns-clause-graph c = subst IsFormGraph c.self.view_is (shared_is_form_graph c.self.inside.nodes.items c.self.inside.numbers c.self.inside.size c.self.invariant)

pub returns-clause-few : goal.returns-clause-few
returns-clause-few c = let few : length c.self.inside.nodes.items ≤ 1048576 = shared_length c.self.inside.nodes.items c.self.inside.numbers c.self.inside.size c.self.invariant in omega arith
