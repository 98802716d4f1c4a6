use Rattle.std.proofs.Common.{arith}
use Rattle.declared_box.proofs.Tables.{as_many}
use Rattle.declared_box.proofs.table.BoundTable.len.Goals as goal

pub returns : goal.returns
returns c = omega (arith, c.len.ensures, c.self.inside.nodes.ok.0, as_many c.self.inside.nodes.items c.args.self.now c.self.view_is)
