use Rattle.std.proofs.Common.{◌≡◌, ℕ, ◌*◌, ◌<◌, ◌≤◌, false}
use Rattle.ival.specs.RowViews.{marks_of, is_marked}
use Rattle.ival.proofs.row_parts.Rows.next_marked_below.Given as goal

-- no word from `at` on has a mark below the place
abbrev pub invariant-loop-at : goal.invariant-loop-at
invariant-loop-at l = (k : ℕ) → l.at * 64 ≤ k → k < l.place → is_marked (marks_of l.self) k ≡ false
