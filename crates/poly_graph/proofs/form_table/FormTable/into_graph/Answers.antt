use Rattle.poly_graph.proofs.SharedForm.{shared_is_form_graph}
use Rattle.poly_graph.proofs.form_table.FormTable.into_graph.Goals as goal

pub of-requires : goal.of-requires
of-requires c = shared_is_form_graph c.self.inside.nodes.items c.self.inside.numbers c.self.inside.size c.self.invariant
