use Rattle.std.proofs.Common.{◌≡◌, length}
use Rattle.ival.specs.Views.{interval_of}
use Rattle.ival.specs.RowViews.{rows_of}
use Rattle.plain_eval.proofs.Sweeping.{Swept}
use Rattle.plain_eval.proofs.subterms.narrow_rows.Given as goal

-- the nodes from this place on are narrowed and have left what they leave
abbrev pub invariant-loop-n : goal.invariant-loop-n
invariant-loop-n l = record {
  count : length (rows_of l.scratch) ≡ length l.graph;
  swept : Swept l.graph (rows_of l.rows) l.root (interval_of l.fn.range) l.place l.scratch;
}

abbrev pub decreases-loop-n : goal.decreases-loop-n
decreases-loop-n l = l.place
