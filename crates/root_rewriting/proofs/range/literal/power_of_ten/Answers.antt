use Rattle.std.proofs.Common.{arith}
use Rattle.root_rewriting.proofs.Powers.{ten_le, ten_some}
use Rattle.root_rewriting.proofs.range.literal.power_of_ten.Goals as goal

pub pow-requires : goal.pow-requires
pow-requires c = omega (arith, ten_le c.args.n c.requires)

pub returns-clause-some : goal.returns-clause-some
returns-clause-some c = omega (arith, ten_some c.args.n, c.pow.ensures)

pub returns-clause-few : goal.returns-clause-few
returns-clause-few c = omega (arith, ten_le c.args.n c.requires, c.pow.ensures)
