use Rattle.std.proofs.Common.{ℕ, ◌<◌, length, slice_index_or}
use Rattle.reader_rows.proofs.of_declared_box.joined.Given as goal

abbrev pub invariant-loop-part : goal.invariant-loop-part
invariant-loop-part l = (k d : ℕ) → k < l.part-index → slice_index_or l.part-items k d < length l.table
