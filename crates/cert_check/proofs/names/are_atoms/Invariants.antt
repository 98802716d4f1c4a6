use Rattle.std.proofs.Common.{◌≡◌, drop}
use Rattle.cover_model.specs.Views.{multipliers_of}
use Rattle.cert_model.specs.Due.{are_atoms}
use Rattle.poly_graph.specs.ProblemViews.{problem_of}
use Rattle.cert_check.proofs.names.are_atoms.Given as goal

-- what holds of the pairs from this one on holds of all
abbrev pub invariant-loop-i : goal.invariant-loop-i
invariant-loop-i l = are_atoms (problem_of l.problem) (multipliers_of (drop l.i l.pairs)) ≡ are_atoms (problem_of l.problem) (multipliers_of l.pairs)
