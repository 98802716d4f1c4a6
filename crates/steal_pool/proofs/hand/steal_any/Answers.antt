use Rattle.std.proofs.Common.{arith, length}
use Rattle.steal_pool.proofs.Sweeps.{around}
use Rattle.steal_pool.proofs.hand.steal_any.Goals as goal

pub returns : goal.returns
returns g c = around c.steal_within-2.result c.args.links.now c.steal_within.new.links c.steal_within-2.new.links c.min-start.result (length c.args.links.now) (omega (arith, c.min-start.ensures)) c.in_default.ensures c.steal_within-2.ensures
