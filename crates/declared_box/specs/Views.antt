-- The code's types as the definitions see them.
use Rattle.std.specs.Prelude.{Option, Some, None}
use Rattle.dyadic.specs.declared.frac.Frac.{Frac}
use Rattle.dyadic.specs.Fraction.{Fraction}
use Rattle.dyadic.specs.Views.{fraction_of_frac}
use Rattle.script_model.specs.Declared as model
use Rattle.declared_box.specs.Table as table
use Rattle.declared_box.specs.declared.interval.Interval.{Interval}
use Rattle.declared_box.specs.declared.table.Side.{Side}
use Rattle.declared_box.specs.declared.table.Side.TheVariants as sides
use Rattle.declared_box.specs.declared.table.BoundNode.{BoundNode}
use Rattle.declared_box.specs.declared.table.BoundNode.TheVariants as nodes

abbrev pub side_of : Side → model.Side
side_of sides.Lower = model.lower
side_of sides.Upper = model.upper

abbrev pub node_of : BoundNode → table.Node
node_of (nodes.One axis side value) = table.one axis (side_of side) (fraction_of_frac value)
node_of (nodes.All parts) = table.all parts.items

abbrev pub end_of : Option Frac → Option Fraction
end_of None = None
end_of (Some f) = Some (fraction_of_frac f)

abbrev pub interval_of : Interval → model.DeclaredInterval
interval_of i = record { low = end_of i.low; high = end_of i.high }
