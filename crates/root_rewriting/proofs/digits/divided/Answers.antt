use Rattle.std.proofs.Common.{arith}
use Rattle.root_rewriting.proofs.Quotients.{divided_is}
use Rattle.root_rewriting.proofs.digits.divided.Goals as goal

pub overflow_add-result : goal.overflow_add-result
overflow_add-result c = let d = divided_is c.args.factor c.args.power c.from-front.result c.requires.short c.ranges.factor.fits c.requires.long c.from-front.ensures in omega (arith, d.fits)

pub returns-clause-whole : goal.returns-clause-whole
returns-clause-whole c = (divided_is c.args.factor c.args.power c.from-front.result c.requires.short c.ranges.factor.fits c.requires.long c.from-front.ensures).whole

pub returns-clause-high : goal.returns-clause-high
returns-clause-high c = (divided_is c.args.factor c.args.power c.from-front.result c.requires.short c.ranges.factor.fits c.requires.long c.from-front.ensures).some
