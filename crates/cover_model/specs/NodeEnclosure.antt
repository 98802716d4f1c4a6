-- The enclosure of a node, from those of its children.
use Rattle.std.specs.Prelude.{ℕ, List, slice_index_or}
use Rattle.dyadic.specs.Rounding.{down, up}
use Rattle.interval_model.specs.Interval.{Interval, nothing, between, interval_negated, interval_sum, interval_product, interval_square}
use Rattle.poly_graph.specs.Term.{Node, constant_node, variable_node, negate_node, add_node, multiply_node, square_node}
use Rattle.interval_model.specs.Space.{Space, axis_interval}

abbrev pub row : List Interval → ℕ → Interval
row es k = slice_index_or es k nothing

-- the enclosure of a node, where these are those of its children
abbrev pub node_enclosure : Space → List Interval → Node → Interval
node_enclosure space es (constant_node q) = between (down q) (up q)
node_enclosure space es (variable_node axis) = axis_interval space axis
node_enclosure space es (negate_node a) = interval_negated (row es a)
node_enclosure space es (add_node a b) = interval_sum (row es a) (row es b)
node_enclosure space es (multiply_node a b) = interval_product (row es a) (row es b)
node_enclosure space es (square_node a) = interval_square (row es a)
