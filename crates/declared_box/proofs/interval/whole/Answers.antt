use Rattle.declared_box.proofs.Ends.{whole_lowest}
use Rattle.declared_box.proofs.interval.whole.Goals as goal

pub invariant_of-result : goal.invariant_of-result
invariant_of-result c = record { lowest = whole_lowest c.args.number c.from.result c.ranges.number.fits c.from.ensures }
