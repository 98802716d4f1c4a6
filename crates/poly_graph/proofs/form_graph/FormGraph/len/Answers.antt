use Rattle.std.proofs.Common.{arith, map}
use Rattle.std.proofs.lemmas.List.{length-map}
use Rattle.poly_graph.specs.FormViews.{form_node_of}
use Rattle.poly_graph.proofs.SharedForm.{length_within}
use Rattle.poly_graph.proofs.form_graph.FormGraph.len.Goals as goal

pub returns-clause-few : goal.returns-clause-few
returns-clause-few c = omega (arith, c.len.ensures, length-map c.self.inside.nodes.items form_node_of, length_within (map form_node_of c.self.inside.nodes.items), c.self.invariant.few)
