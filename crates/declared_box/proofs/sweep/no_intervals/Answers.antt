use Rattle.std.proofs.Common.{ap, map, ◌∙◌}
use Rattle.declared_box.specs.Interval.{no_interval}
use Rattle.declared_box.specs.Views.{interval_of}
use Rattle.declared_box.proofs.Sweeps.{one_more}
use Rattle.declared_box.proofs.sweep.no_intervals.Goals as goal

pub loop-preserved : goal.loop-preserved
loop-preserved c = ap (map interval_of) c.in_ok-push.ensures.items ∙ one_more interval_of c.loop.intervals.items c.none.result c.loop.counter no_interval c.loop.invariant c.none.ensures
