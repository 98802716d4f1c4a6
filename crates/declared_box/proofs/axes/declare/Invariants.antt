use Rattle.std.proofs.Common.{map}
use Rattle.poly_graph.specs.ProblemViews.{axis_of}
use Rattle.declared_box.specs.Axes.{constant_of}
use Rattle.declared_box.proofs.Boxes.{Built, found_box}
use Rattle.declared_box.proofs.axes.declare.Given as goal

abbrev pub invariant-loop-k : goal.invariant-loop-k
invariant-loop-k l = Built (found_box l.bound l.intervals.items) (map constant_of l.constants) l.k (map axis_of l.axes.items)
