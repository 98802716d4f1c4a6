use Rattle.root_rewriting.proofs.Wholes.{whole_lowest}
use Rattle.root_rewriting.proofs.range.roots.whole.Goals as goal

pub invariant_of-result : goal.invariant_of-result
invariant_of-result c = record { lowest = whole_lowest c.args.number c.from.result c.ranges.number.fits c.from.ensures }
