use Rattle.std.proofs.Common.{◌≡◌, ◌+◌, map, drop}
use Rattle.cover_line.specs.Views.{multipliers_of}
use Rattle.poly_graph.specs.ProblemViews.{problem_of}
use Rattle.squares.specs.Sums.{combined_terms}
use Rattle.squares.specs.Views.{terms_of}
use Rattle.squares.proofs.sum.combined_polynomial.Given as goal

-- the pairs from this place on are added, and their steps are taken
abbrev pub invariant-loop-k : goal.invariant-loop-k
invariant-loop-k l = let a = combined_terms (problem_of l.combination.problem.now) (map terms_of l.polynomials) (multipliers_of (drop l.k l.combination.multipliers.now)) in record {
  sum : terms_of l.sum ≡ a.polynomial;
  steps : l.budget.left + a.steps ≡ l.fn.budget.left;
}
