use Rattle.poly_graph.specs.FormViews.{form_node_of}
use Rattle.goal_limit.proofs.Walks.{size_next}
use Rattle.goal_limit.proofs.forms.forms_size.Goals as goal

pub loop-k-preserved : goal.loop-k-preserved
loop-k-preserved c = size_next c.args.forms.now c.loop-k.k c.loop-k.size c.node_size-size.result (form_node_of c.node.result.now) c.loop-k.invariant c.node.ensures c.node_size-size.ensures
