-- The step from a narrowed interval to a space.
use Rattle.std.specs.Prelude.{Option, Some}
use Rattle.interval_model.specs.Interval.{Interval}
use Rattle.poly_graph.specs.Term.{Node, variable_node}
use Rattle.interval_model.specs.Space.{Space}
use Rattle.cover_model.specs.Narrowed.{set_axis}

-- what the narrowed interval of a node leaves to the axes
abbrev pub axis_step : Node → Option Interval → Space → Space
axis_step (variable_node axis) (Some i) space = set_axis axis i space
axis_step _ _ space = space
