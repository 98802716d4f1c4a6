use Rattle.std.proofs.Common.{◌≡◌, ℕ, ◌≤◌, length, Some}
use Rattle.interval_model.specs.Interval.{nothing}
use Rattle.ival.specs.RowViews.{rows_of}
use Rattle.ival.specs.Options.{option_at}
use Rattle.plain_eval.proofs.scratch.some_empty.Given as goal

-- no interval from this place on is empty
abbrev pub invariant-loop-n : goal.invariant-loop-n
invariant-loop-n l = record {
  inside : l.place ≤ length (rows_of l.scratch);
  full : (k : ℕ) → l.place ≤ k → option_at l.scratch k ≡ Some nothing → ⊥;
}

abbrev pub decreases-loop-n : goal.decreases-loop-n
decreases-loop-n l = l.place
