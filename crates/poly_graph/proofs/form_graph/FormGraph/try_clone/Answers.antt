use Rattle.std.proofs.Common.{◌≡◌, List, map, sym, ◌∙◌, subst}
use Rattle.std.specs.List.{AllZip}
use Rattle.poly_graph.specs.FormGraph as form
use Rattle.poly_graph.specs.FormGraph.{IsFormGraph}
use Rattle.poly_graph.specs.FormViews.{form_node_of}
use Rattle.poly_graph.specs.declared.form_node.FormNode.{FormNode}
use Rattle.poly_graph.specs.contracts.form_node.FormNodeClone.TheImpl as form_clone
use Rattle.poly_graph.proofs.Clones.{map_clones, form_clone_is}
use Rattle.poly_graph.proofs.form_graph.FormGraph.try_clone.Goals as goal

same : (c : goal.In_ok-nodes) → map form_node_of c.in_ok-nodes.nodes.items ≡ map form_node_of c.self.inside.nodes.items
same c = map_clones form_node_of (form_clone.ghosts).is_clone c.self.inside.nodes.items c.in_ok-nodes.nodes.items form_clone_is
    (subst (λ (ns : List FormNode). AllZip (form_clone.ghosts).is_clone ns c.in_ok-nodes.nodes.items) c.deref.ensures.value c.in_ok-nodes.ensures.items)

pub invariant_of-result : goal.invariant_of-result
invariant_of-result c = subst (λ (ns : List form.FormNode). IsFormGraph ns) (sym (same c)) c.self.invariant

pub returns : goal.returns
returns c = same c ∙ c.self.view_is
