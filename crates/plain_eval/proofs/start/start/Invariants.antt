use Rattle.std.proofs.Common.{◌≡◌, drop, length}
use Rattle.dyadic.specs.Rounding.{two_to_minus}
use Rattle.cover_model.specs.Combination.{allowed_range, central_range, marked_range, root_adjoints}
use Rattle.cover_model.specs.Views.{multipliers_of}
use Rattle.poly_graph.specs.ProblemViews.{problem_of}
use Rattle.ival.specs.Views.{interval_of}
use Rattle.ival.specs.RowViews.{rows_of}
use Rattle.ival.specs.Options.{option_at}
use Rattle.plain_eval.proofs.start.start.Given as goal

-- the multipliers from this place on are begun with
abbrev pub invariant-loop-i : goal.invariant-loop-i
invariant-loop-i l = record {
  count : length (rows_of l.linear) ≡ length l.problem.nodes;
  roots : option_at l.linear ≡ root_adjoints (problem_of l.problem) (multipliers_of (drop l.i l.multipliers));
  central : interval_of l.central ≡ central_range (problem_of l.problem) (rows_of l.centre_rows) (multipliers_of (drop l.i l.multipliers));
  allowed : interval_of l.allowed ≡ allowed_range (marked_range (problem_of l.problem) (two_to_minus l.loosen) l.lits) (multipliers_of (drop l.i l.multipliers));
}
