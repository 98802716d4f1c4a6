use Rattle.std.proofs.Common.{◌≡◌, ℕ, ◌<◌, IsTrue, not, length}
use Rattle.poly_graph.specs.ProblemViews.{problem_of}
use Rattle.width_plan.specs.Plan.{fits}
use Rattle.width_plan.proofs.plan.search.Given as goal

-- fewer bits do not fit some atom
abbrev pub invariant-loop-bits : goal.invariant-loop-bits
invariant-loop-bits l = record {
  count : length l.widths ≡ length l.problem.nodes;
  none : (fewer : ℕ) → fewer < l.bits → (j : ℕ) × (j < length l.problem.atoms) × IsTrue (not (fits (problem_of l.problem) l.delta_bits l.margin_bits fewer j));
}
