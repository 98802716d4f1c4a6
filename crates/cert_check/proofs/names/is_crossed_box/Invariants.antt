use Rattle.std.proofs.Common.{◌≡◌, drop, map}
use Rattle.poly_graph.specs.ProblemViews.{axis_of}
use Rattle.cert_check.proofs.Crossed.{some_crossed}
use Rattle.cert_check.proofs.names.is_crossed_box.Given as goal

-- the axes that are left decide
abbrev pub invariant-loop-axis : goal.invariant-loop-axis
invariant-loop-axis l = some_crossed (map axis_of l.axes) ≡ some_crossed (drop l.axis (map axis_of l.axes))
