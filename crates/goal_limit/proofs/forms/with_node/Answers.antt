use Rattle.std.proofs.Common.{sym, subst, List}
use Rattle.poly_graph.specs.FormGraph.{FormNode}
use Rattle.poly_graph.specs.FormViews.{form_node_of}
use Rattle.goal_limit.specs.Made.{HasNode}
use Rattle.goal_limit.proofs.LimitForms.{node_added}
use Rattle.goal_limit.proofs.forms.with_node.Goals as goal

pub joined-requires-clause-graph : goal.joined-requires-clause-graph
joined-requires-clause-graph c =
    (node_added c.args.forms.now (form_node_of c.args.node) c.node_size.result c.forms_size.result c.len-n.result c.len-n.ensures.graph c.requires c.in_default.ensures c.node_size.ensures c.forms_size.ensures.size c.forms_size.ensures.few c.if-node_size-forms_size.false c.len-n.ensures.len).graph

pub returns : goal.returns
returns c =
    subst (λ (ns : List FormNode). HasNode c.args.forms.now (form_node_of c.args.node) ns c.len-n.result) (sym c.in_ok-longer.ensures)
    (node_added c.args.forms.now (form_node_of c.args.node) c.node_size.result c.forms_size.result c.len-n.result c.len-n.ensures.graph c.requires c.in_default.ensures c.node_size.ensures c.forms_size.ensures.size c.forms_size.ensures.few c.if-node_size-forms_size.false c.len-n.ensures.len)
