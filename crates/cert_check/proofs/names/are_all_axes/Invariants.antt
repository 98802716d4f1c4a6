use Rattle.std.proofs.Common.{◌≡◌, drop, map}
use Rattle.cover_line.specs.Views.{axes_of}
use Rattle.cert_model.specs.Due.{are_all_axes}
use Rattle.poly_graph.specs.ProblemViews.{problem_of}
use Rattle.cert_check.proofs.names.are_all_axes.Given as goal

-- what holds of the monomials from this one on holds of all
abbrev pub invariant-loop-i : goal.invariant-loop-i
invariant-loop-i l = are_all_axes (problem_of l.problem) (map axes_of (drop l.i l.monomials)) ≡ are_all_axes (problem_of l.problem) (map axes_of l.monomials)
