use Rattle.std.proofs.Common.{◌≡◌, map, drop}
use Rattle.dyadic.specs.Rounding.{exact}
use Rattle.cover_model.specs.State.{delta_of}
use Rattle.poly_graph.specs.ProblemViews.{axis_of}
use Rattle.ival.specs.SpaceViews.{space_of}
use Rattle.cert_model.specs.Due.{are_near, coordinates}
use Rattle.cert_check.specs.States.{loosenings_of}
use Rattle.cert_check.proofs.point.are_near.Given as goal

-- what is left to compare decides
abbrev pub invariant-loop-axis : goal.invariant-loop-axis
invariant-loop-axis l =
    are_near (exact (delta_of (loosenings_of l.s))) (map axis_of l.axes) (coordinates (space_of l.space))
    ≡ are_near (exact (delta_of (loosenings_of l.s))) (drop l.axis (map axis_of l.axes)) (coordinates (drop l.axis (space_of l.space)))
