-- The width of a node, from those of its children and from the enclosures over the root.
use Rattle.std.specs.Prelude.{ℕ, List, map, slice_index_or}
use Rattle.dyadic.specs.Rounding.{Ext, finite, above_all, two_to_minus}
use Rattle.interval_model.specs.Interval.{Interval}
use Rattle.interval_model.specs.Space.{Space}
use Rattle.poly_graph.specs.Term.{Node, constant_node, variable_node, negate_node, add_node, multiply_node, square_node, graph_terms}
use Rattle.cover_model.specs.NodeEnclosure.{row}
use Rattle.width_plan.specs.Width.{interval_size, width_sum, width_product, interval_width, rounding_width, two, width}

-- the widths of a graph's nodes, in order
abbrev pub graph_widths : Space → ℕ → List Node → List Ext
graph_widths box bits nodes = map (width box bits) (graph_terms nodes)

abbrev pub width_at : List Ext → ℕ → Ext
width_at ws k = slice_index_or ws k above_all

-- what rounding adds at node k
abbrev pub added : List Interval → ℕ → Ext
added es k = rounding_width (interval_size (row es k))

-- widths without that
abbrev pub of_sum : List Ext → ℕ → ℕ → Ext
of_sum ws a b = width_sum (width_at ws a) (width_at ws b)

abbrev pub of_product : List Interval → List Ext → ℕ → ℕ → Ext
of_product es ws a b = width_sum (width_product (interval_size (row es a)) (width_at ws b)) (width_product (interval_size (row es b)) (width_at ws a))

abbrev pub of_square : List Interval → List Ext → ℕ → Ext
of_square es ws a = width_product (width_product two (interval_size (row es a))) (width_at ws a)

-- the width of node k, where es are the enclosures and ws the widths of its children
abbrev pub node_width : ℕ → List Interval → List Ext → ℕ → Node → Ext
node_width bits es ws k (constant_node q) = interval_width (row es k)
node_width bits es ws k (variable_node axis) = finite (two_to_minus bits)
node_width bits es ws k (negate_node a) = width_at ws a
node_width bits es ws k (add_node a b) = width_sum (of_sum ws a b) (added es k)
node_width bits es ws k (multiply_node a b) = width_sum (of_product es ws a b) (added es k)
node_width bits es ws k (square_node a) = width_sum (of_square es ws a) (added es k)
