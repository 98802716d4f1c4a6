-- A row that is renewed.
use Rattle.std.specs.Prelude.{ℕ, List, slice_set}
use Rattle.poly_graph.specs.declared.node.Node.{Node}
use Rattle.poly_graph.specs.Views.{node_of}
use Rattle.interval_model.specs.Interval.{Interval}
use Rattle.cover_model.specs.NodeEnclosure.{node_enclosure}
use Rattle.ival.specs.declared.row_parts.Rows.{Rows}
use Rattle.ival.specs.declared.space.Space.{Space}
use Rattle.ival.specs.RowViews.{rows_of}
use Rattle.ival.specs.SpaceViews.{space_of}

-- the enclosure of a node over the space, from the rows of its children
abbrev pub enclosure_in : Space → Rows → Node → Interval
enclosure_in space rows node = node_enclosure (space_of space) (rows_of rows) (node_of node)

-- the rows, with the enclosure of node n at its place
abbrev pub renewed : Space → Rows → ℕ → Node → List Interval
renewed space rows n node = slice_set (rows_of rows) n (enclosure_in space rows node)
