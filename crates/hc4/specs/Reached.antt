-- From which nodes a changed axis is reached, and rows that are the enclosures over some space.
use Rattle.std.specs.Prelude.{◌≡◌, ℕ, List, true, false}
use Rattle.interval_model.specs.Interval.{Interval}
use Rattle.poly_graph.specs.Term.{Node, variable_node, has_child}
use Rattle.interval_model.specs.Space.{Space, axis_interval}
use Rattle.cover_model.specs.Narrowed.{enclosures}
use Rattle.cover_model.specs.NodeEnclosure.{row}
use Rattle.ival.specs.declared.row_parts.Rows.{Rows}
use Rattle.ival.specs.declared.space.Space.{Space as CodeSpace}
use Rattle.ival.specs.RowViews.{rows_of, marks_of, is_marked}
use Rattle.ival.specs.SpaceViews.{space_of}

-- if node n, which is p, is a variable, its row has the numbers that are left to its axis; no child of it is marked
pub record IsCalm (space : CodeSpace) (rows : Rows) (n : ℕ) (p : Node) : Type 0 where
  pub axis : (a : ℕ) → p ≡ variable_node a → axis_interval (space_of space) a ≡ row (rows_of rows) n
  pub children : (c : ℕ) → has_child c p ≡ true → is_marked (marks_of rows) c ≡ false

-- the rows are the enclosures over some space
pub record AreEnclosures (nodes : List Node) (es : List Interval) : Type 0 where
  pub was : Space
  pub filled : es ≡ enclosures was nodes
