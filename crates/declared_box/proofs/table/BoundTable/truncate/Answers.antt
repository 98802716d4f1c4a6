use Rattle.declared_box.proofs.Tables.{lists_cut, order_cut}
use Rattle.declared_box.proofs.table.BoundTable.truncate.Goals as goal

pub invariant_of-self : goal.invariant_of-self
invariant_of-self c = order_cut c.self.inside.nodes.items c.truncate.new.self.items c.args.n c.truncate.ensures.items c.self.invariant

pub returns : goal.returns
returns c = lists_cut c.self.inside.nodes.items c.truncate.new.self.items c.args.n c.args.self.now c.truncate.ensures.items c.self.view_is
