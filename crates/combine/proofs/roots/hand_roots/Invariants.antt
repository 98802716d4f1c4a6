use Rattle.std.proofs.Common.{◌≡◌, ℕ, length, drop}
use Rattle.dyadic.specs.Rounding.{two_to_minus}
use Rattle.cover_model.specs.Combination.{root_adjoints, central_range, allowed_range, marked_range}
use Rattle.cover_model.specs.Views.{multipliers_of}
use Rattle.poly_graph.specs.ProblemViews.{problem_of}
use Rattle.ival.specs.Views.{interval_of}
use Rattle.ival.specs.RowViews.{rows_of}
use Rattle.ival.specs.Options.{option_at}
use Rattle.combine.proofs.roots.hand_roots.Given as goal

-- the pairs from this place on are handed to their roots
abbrev pub invariant-loop-k : goal.invariant-loop-k
invariant-loop-k l = record {
  roots : (s : ℕ) → option_at l.adjoints s ≡ root_adjoints (problem_of l.combination.problem.now) (drop l.k (multipliers_of l.combination.multipliers.now)) s;
  central : interval_of l.ranges.central ≡ central_range (problem_of l.combination.problem.now) (rows_of l.centre_rows) (drop l.k (multipliers_of l.combination.multipliers.now));
  allowed : interval_of l.ranges.allowed ≡ allowed_range (marked_range (problem_of l.combination.problem.now) (two_to_minus l.combination.loosen) l.combination.lits.now) (drop l.k (multipliers_of l.combination.multipliers.now));
  count : length (rows_of l.adjoints) ≡ length l.combination.problem.now.nodes;
}
