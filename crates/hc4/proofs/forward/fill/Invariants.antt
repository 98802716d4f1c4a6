use Rattle.std.proofs.Common.{◌≡◌, ℕ, ◌<◌, length}
use Rattle.cover_model.specs.Narrowed.{enclosures}
use Rattle.cover_model.specs.NodeEnclosure.{row}
use Rattle.ival.specs.RowViews.{rows_of, marks_of}
use Rattle.ival.specs.SpaceViews.{space_of}
use Rattle.hc4.proofs.forward.fill.Given as goal

-- the rows so far are the enclosures
abbrev pub invariant-loop-n : goal.invariant-loop-n
invariant-loop-n l = record {
  count : length (rows_of l.rows) ≡ length l.graph;
  filled : (k : ℕ) → k < l.n → row (rows_of l.rows) k ≡ row (enclosures (space_of l.space) l.graph) k;
  marks : marks_of l.rows ≡ marks_of l.initial.rows;
}
