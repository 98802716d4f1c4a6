use Rattle.dyadic.proofs.Margins.{whole_size}
use Rattle.dyadic.proofs.margin.whole_of.Goals as goal

pub returns-clause-value : goal.returns-clause-value
returns-clause-value c = (whole_size c.args.v.odd c.args.v.shift c.from.result c.from.ensures c.args.v.spelled c.requires).0

pub returns-clause-some : goal.returns-clause-some
returns-clause-some c = (whole_size c.args.v.odd c.args.v.shift c.from.result c.from.ensures c.args.v.spelled c.requires).1
