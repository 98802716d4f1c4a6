use Rattle.declared_box.proofs.Tables.{Pushed, pushed}
use Rattle.declared_box.specs.Views.{node_of}
use Rattle.declared_box.specs.declared.table.BoundNode.TheVariants.{One}
use Rattle.declared_box.proofs.table.BoundTable.one.Goals as goal

now-pushed : (c : goal.After-add) → Pushed c.args.self.now c.add.new.nodes.items (node_of (One c.args.axis c.args.side c.args.value)) c.add.result
now-pushed c = pushed c.self.inside.nodes.items c.add.new.nodes.items (One c.args.axis c.args.side c.args.value) c.args.self.now c.add.result c.self.view_is c.self.invariant tt c.add.ensures

pub invariant_of-self : goal.invariant_of-self
invariant_of-self c = (now-pushed c).ordered

pub returns : goal.returns
returns c = (now-pushed c).answers
