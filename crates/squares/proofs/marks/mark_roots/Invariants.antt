use Rattle.std.proofs.Common.{◌≡◌, drop, length}
use Rattle.cover_line.specs.Views.{multipliers_of}
use Rattle.poly_graph.specs.ProblemViews.{problem_of}
use Rattle.square_model.specs.Positive.{root_marks}
use Rattle.squares.proofs.marks.mark_roots.Given as goal

-- the roots of the pairs from this place on are marked
abbrev pub invariant-loop-k : goal.invariant-loop-k
invariant-loop-k l = record {
  count : length l.marks ≡ length l.combination.problem.now.nodes;
  same : l.marks ≡ root_marks (problem_of l.combination.problem.now) (multipliers_of (drop l.k l.combination.multipliers.now));
}
