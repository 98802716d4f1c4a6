use Rattle.std.proofs.Common.{◌≡◌, map, replicate}
use Rattle.declared_box.specs.Interval.{no_interval}
use Rattle.declared_box.specs.Views.{interval_of}
use Rattle.declared_box.proofs.sweep.no_intervals.Given as goal

abbrev pub invariant-loop : goal.invariant-loop
invariant-loop l = map interval_of l.intervals.items ≡ replicate l.counter no_interval
