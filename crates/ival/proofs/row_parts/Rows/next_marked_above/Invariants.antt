use Rattle.std.proofs.Common.{◌≡◌, ℕ, ◌*◌, ◌<◌, false}
use Rattle.ival.specs.RowViews.{marks_of, is_marked}
use Rattle.ival.proofs.row_parts.Rows.next_marked_above.Given as goal

-- no word before `at` has a mark above the place
abbrev pub invariant-loop-at : goal.invariant-loop-at
invariant-loop-at l = (k : ℕ) → l.place < k → k < l.at * 64 → is_marked (marks_of l.self) k ≡ false
