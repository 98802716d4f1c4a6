use Rattle.std.proofs.Common.{◌≡◌, drop}
use Rattle.cert_model.specs.Due.{are_axes}
use Rattle.poly_graph.specs.ProblemViews.{problem_of}
use Rattle.cert_check.proofs.names.are_axes.Given as goal

-- what holds of the axes from this one on holds of all
abbrev pub invariant-loop-i : goal.invariant-loop-i
invariant-loop-i l = are_axes (problem_of l.problem) (drop l.i l.monomial) ≡ are_axes (problem_of l.problem) l.monomial
