use Rattle.std.proofs.Common.{◌≡◌, ◌≤◌, ℕ, suc, length, Some}
use Rattle.cover_model.specs.Combination.{Part, part_range}
use Rattle.cover_model.specs.NodeEnclosure.{row}
use Rattle.ival.specs.Views.{interval_of}
use Rattle.ival.specs.RowViews.{rows_of, marks_of}
use Rattle.ival.specs.SpaceViews.{space_of}
use Rattle.plain_eval.specs.Parts.{setting, range_on, part_in_setting}
use Rattle.plain_eval.proofs.parts.sum_parts.Given as goal

-- the sum is that of the parts from this place on, and their rows have the sums behind them
abbrev pub invariant-loop-n : goal.invariant-loop-n
invariant-loop-n l = record {
  inside : l.place ≤ length l.graph;
  count : length (rows_of l.left) ≡ length l.graph;
  ranges_count : length (rows_of l.ranges) ≡ length l.graph;
  ranges : (k : ℕ) (x : Part) → l.place ≤ k → part_in_setting (setting l.graph l.coefficients l.space l.centre) k ≡ Some x →
      row (rows_of l.ranges) k ≡ part_range (space_of l.space) (space_of l.centre) x;
  marks : marks_of l.left ≡ marks_of l.initial.left;
  sum : interval_of l.sum ≡ range_on (setting l.graph l.coefficients l.space l.centre) l.place;
  behind : (k : ℕ) (x : Part) → l.place ≤ k → part_in_setting (setting l.graph l.coefficients l.space l.centre) k ≡ Some x →
      row (rows_of l.left) k ≡ range_on (setting l.graph l.coefficients l.space l.centre) (suc k);
}

abbrev pub decreases-loop-n : goal.decreases-loop-n
decreases-loop-n l = l.place
