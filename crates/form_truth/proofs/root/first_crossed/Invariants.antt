use Rattle.std.proofs.Common.{◌≡◌, drop, map}
use Rattle.poly_graph.specs.Problem.{first_crossed_from}
use Rattle.poly_graph.specs.ProblemViews.{axis_of}
use Rattle.form_truth.proofs.root.first_crossed.Given as goal

-- the axes that are left decide
abbrev pub invariant-loop-axis : goal.invariant-loop-axis
invariant-loop-axis l = first_crossed_from 0 (map axis_of l.axes) ≡ first_crossed_from l.axis (drop l.axis (map axis_of l.axes))
