use Rattle.std.proofs.Common.{arith}
use Rattle.poly_graph.proofs.Shared.{Added, added, on_ok}
use Rattle.poly_graph.proofs.node_table.NodeTable.intern.Goals as goal
use Rattle.poly_graph.specs.Views.{node_of}

now-added : (c : goal.Else-is_err) → Added c.args.self.now c.add.new.nodes.items c.add.new.numbers (node_of c.args.node) c.len-n.result
now-added c = added c.self.inside.nodes.items c.add.new.nodes.items c.self.inside.numbers c.add.new.numbers c.args.node c.len-n.result c.args.self.now c.self.view_is c.self.invariant c.requires
    (omega arith) c.if-n-ge-MOST_NODES.false c.in_default.ensures.value (on_ok c.add.result _ c.if-is_err.ensures.value c.add.ensures.items) (on_ok c.add.result _ c.if-is_err.ensures.value c.add.ensures.numbers)

pub invariant_of-self-2 : goal.invariant_of-self-2
invariant_of-self-2 c = (now-added c).shared

pub returns : goal.returns
returns c = (now-added c).interned
