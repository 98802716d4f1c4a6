use Rattle.std.proofs.Common.{[], map, take}
use Rattle.script_roots.specs.TreeBounds.{axes_from}
use Rattle.root_rewriting.specs.Constants.{constant_of}
use Rattle.root_rewriting.specs.Shapes.{KnowsAxes}
use Rattle.root_rewriting.proofs.range.constants.axes.Given as goal

abbrev pub invariant-loop-axis : goal.invariant-loop-axis
invariant-loop-axis l = KnowsAxes l.axes (axes_from 0 [] (map constant_of (take l.axis l.constants)))
