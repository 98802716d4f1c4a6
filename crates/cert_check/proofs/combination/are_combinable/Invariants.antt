use Rattle.std.proofs.Common.{◌≡◌, drop}
use Rattle.cover_model.specs.Views.{multipliers_of}
use Rattle.cover_model.specs.Rules.{are_combinable}
use Rattle.poly_graph.specs.ProblemViews.{problem_of}
use Rattle.cert_check.specs.States.{state_of}
use Rattle.cert_check.proofs.combination.are_combinable.Given as goal

-- what holds of the pairs from this one on holds of all
abbrev pub invariant-loop-i : goal.invariant-loop-i
invariant-loop-i l = are_combinable (problem_of l.problem) (state_of l.state) (multipliers_of (drop l.i l.pairs)) ≡ are_combinable (problem_of l.problem) (state_of l.state) (multipliers_of l.pairs)
