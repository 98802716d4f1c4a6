use Rattle.std.proofs.Common.{◌≡◌, length}
use Rattle.ival.specs.Views.{interval_of}
use Rattle.ival.specs.RowViews.{rows_of}
use Rattle.hc4.proofs.Sweeping.{Swept}
use Rattle.hc4.proofs.sweep.sweep.Given as goal

abbrev pub invariant-loop-n : goal.invariant-loop-n
invariant-loop-n l = record {
  count : length (rows_of l.scratch) ≡ length l.graph;
  swept : Swept l.graph (rows_of l.rows) l.root (interval_of l.fn.range) l.place l.scratch;
}

abbrev pub decreases-loop-n : goal.decreases-loop-n
decreases-loop-n l = l.place
