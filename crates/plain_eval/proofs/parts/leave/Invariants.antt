use Rattle.std.proofs.Common.{◌≡◌, ◌≢◌, ◌<◌, ◌≤◌, ◌-◌, ℕ, suc, length, Some, None}
use Rattle.interval_model.specs.Interval.{nothing}
use Rattle.cover_model.specs.Combination.{Part}
use Rattle.cover_model.specs.NodeEnclosure.{row}
use Rattle.ival.specs.Views.{interval_of}
use Rattle.ival.specs.RowViews.{rows_of}
use Rattle.ival.specs.Options.{option_at}
use Rattle.plain_eval.specs.Parts.{setting, range_on, range_before, left_at, part_in_setting}
use Rattle.plain_eval.proofs.parts.leave.Given as goal

-- what is left to the nodes before this place is put, and the sum is that of the rest and their parts
abbrev pub invariant-loop-allowed : goal.invariant-loop-allowed
invariant-loop-allowed l = record {
  inside : l.place < length l.graph;
  count : length (rows_of l.left) ≡ length l.graph;
  sum : interval_of l.sum ≡ range_before (setting l.graph l.coefficients l.space l.centre) (interval_of l.fn.rest) l.place;
  each : (k : ℕ) → k < l.place → option_at l.left k ≡ left_at (setting l.graph l.coefficients l.space l.centre) (interval_of l.allowed) (interval_of l.fn.rest) k;
  full : (k : ℕ) → k < l.place → left_at (setting l.graph l.coefficients l.space l.centre) (interval_of l.allowed) (interval_of l.fn.rest) k ≢ Some nothing;
  ahead : (k : ℕ) → l.place ≤ k → option_at l.left k ≡ None;
  behind : (k : ℕ) (x : Part) → l.place ≤ k → part_in_setting (setting l.graph l.coefficients l.space l.centre) k ≡ Some x →
      row (rows_of l.left) k ≡ range_on (setting l.graph l.coefficients l.space l.centre) (suc k);
}

abbrev pub decreases-loop-allowed : goal.decreases-loop-allowed
decreases-loop-allowed l = length l.graph - l.place
