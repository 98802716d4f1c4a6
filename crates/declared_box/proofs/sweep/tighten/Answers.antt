use Rattle.declared_box.proofs.Changes.{tightened_beyond, tightened_set}
use Rattle.declared_box.specs.Views.{side_of}
use Rattle.dyadic.specs.Views.{fraction_of_frac}
use Rattle.declared_box.proofs.sweep.tighten.Goals as goal

pub returns-then-axis-intervals : goal.returns-then-axis-intervals
returns-then-axis-intervals c = tightened_set c.args.axis (side_of c.args.side) (fraction_of_frac c.args.value) c.args.intervals.now c.index-intervals-axis.result c.tightened.result c.if-axis-intervals.true c.index-intervals-axis.is c.tightened.ensures

pub returns-else-axis-intervals : goal.returns-else-axis-intervals
returns-else-axis-intervals c = tightened_beyond c.args.axis (side_of c.args.side) (fraction_of_frac c.args.value) c.args.intervals.now c.if-axis-intervals.false
