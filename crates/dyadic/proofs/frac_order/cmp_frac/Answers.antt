use Rattle.std.proofs.Common.{◌∙◌}
use Rattle.dyadic.proofs.OrderTests.{order_of_fractions}
use Rattle.dyadic.proofs.frac_order.cmp_frac.Goals as goal

pub returns : goal.returns
returns c = c.cmp_crossed.ensures ∙ order_of_fractions c.args.a c.args.b
