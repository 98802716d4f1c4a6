use Rattle.std.proofs.Common.{arith, ◌≤◌, ◌+◌, length}
use Rattle.poly_graph.proofs.SharedForm.{FormAdded, form_added, shared_length, on_ok}
use Rattle.poly_graph.proofs.form_table.FormTable.intern.Goals as goal
use Rattle.poly_graph.specs.FormViews.{form_node_of}

pub overflow_cast-n : goal.overflow_cast-n
overflow_cast-n c = let few : length c.self.inside.nodes.items ≤ 1048576 = shared_length c.self.inside.nodes.items c.self.inside.numbers c.self.inside.size c.self.invariant in omega arith

now-added : (c : goal.After-self-1) → FormAdded c.args.self.now c.add.new.nodes.items c.add.new.numbers (c.self.inside.size + c.size_of-more.result) (form_node_of c.args.node) c.len-n.result
now-added c = form_added c.self.inside.nodes.items c.add.new.nodes.items c.self.inside.numbers c.add.new.numbers c.self.inside.size c.size_of-more.result c.args.node c.len-n.result c.args.self.now c.self.view_is
    c.self.invariant c.requires (omega arith) c.size_of-more.ensures (let few = c.self.invariant.few in omega (arith, c.if-more-self.false)) c.in_default.ensures.value
    (on_ok c.add.result _ c.if-is_err.ensures.value c.add.ensures.items) (on_ok c.add.result _ c.if-is_err.ensures.value c.add.ensures.numbers)

pub invariant_of-self-2 : goal.invariant_of-self-2
invariant_of-self-2 c = (now-added c).shared

pub returns : goal.returns
returns c = (now-added c).interned
