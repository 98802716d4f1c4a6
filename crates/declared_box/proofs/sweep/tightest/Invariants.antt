use Rattle.std.proofs.Common.{◌≡◌, length, map}
use Rattle.declared_box.specs.Table.{all_of}
use Rattle.declared_box.specs.Views.{interval_of}
use Rattle.declared_box.proofs.Sweeps.{Swept}
use Rattle.declared_box.proofs.sweep.tightest.Given as goal

abbrev pub invariant-loop-n : goal.invariant-loop-n
invariant-loop-n l = (length l.marks.items ≡ length l.nodes) × Swept l.table (all_of l.table l.roots) l.axes l.n l.marks.items (map interval_of l.intervals.items)
