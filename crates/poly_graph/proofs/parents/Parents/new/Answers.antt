use Rattle.poly_graph.specs.Views.{node_of}
use Rattle.poly_graph.proofs.Upwards.{loop_step, note_required}
use Rattle.poly_graph.proofs.parents.Parents.new.Goals as goal

pub note-requires : goal.note-requires
note-requires c = note_required (λ v. v.items) c.args.graph.now c.loop-n.n (node_of c.node.result) c.loop-n.rows.items c.len-n-end.ensures.graph.ordered c.node.ensures c.loop-n.invariant

pub loop-n-preserved : goal.loop-n-preserved
loop-n-preserved c = loop_step (λ v. v.items) c.args.graph.now c.loop-n.n (node_of c.node.result) c.loop-n.rows.items c.note.new.rows.items c.push.new.self.items c.new.result c.node.ensures c.loop-n.invariant
    c.in_ok-note.ensures c.in_ok-push.ensures.items c.new.ensures.items
