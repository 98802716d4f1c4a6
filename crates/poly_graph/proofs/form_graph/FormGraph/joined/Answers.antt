use Rattle.std.proofs.Common.{◌≡◌, List, ◌++◌, map, take, sym, subst}
use Rattle.std.specs.List.{AllZip}
use Rattle.poly_graph.specs.FormGraph as form
use Rattle.poly_graph.specs.FormGraph.{IsFormGraph}
use Rattle.poly_graph.specs.FormViews.{form_node_of}
use Rattle.poly_graph.specs.declared.form_node.FormNode.{FormNode}
use Rattle.poly_graph.specs.contracts.form_node.FormNodeClone.TheImpl as form_clone
use Rattle.poly_graph.proofs.Clones.{joined_clones, form_clone_is}
use Rattle.poly_graph.proofs.form_graph.FormGraph.joined.Goals as goal

whole : (c : goal.In_ok-extend_from_slice) → map form_node_of c.extend_from_slice.new.self.items ≡ take c.args.keep c.args.first.now ++ map form_node_of c.args.more.now
whole c = joined_clones form_node_of (form_clone.ghosts).is_clone c.extend_from_slice.new.self.items c.in_ok-nodes.nodes.items c.first.inside.nodes.items c.args.more.now c.args.keep c.args.first.now form_clone_is
    (subst (λ (ns : List FormNode). AllZip (form_clone.ghosts).is_clone (take c.args.keep ns) c.in_ok-nodes.nodes.items) c.deref.ensures.value c.in_ok-nodes.ensures.items)
    c.in_ok-extend_from_slice.ensures.items c.first.view_is

pub invariant_of-result : goal.invariant_of-result
invariant_of-result c = subst (λ (ns : List form.FormNode). IsFormGraph ns) (sym (whole c)) c.requires.graph

pub returns : goal.returns
returns c = whole c
