use Rattle.std.proofs.Common.{ℕ, ◌<◌, IsTrue}
use Rattle.poly_graph.specs.ProblemViews.{problem_of}
use Rattle.width_plan.specs.Plan.{fits}
use Rattle.width_plan.proofs.plan.first_misfit.Given as goal

-- the bits fit the atoms so far
abbrev pub invariant-loop-atom : goal.invariant-loop-atom
invariant-loop-atom l = (j : ℕ) → j < l.atom → IsTrue (fits (problem_of l.problem) l.delta_bits l.margin_bits l._bits j)
