-- Nodes whose rows are their enclosures from the rows of their children.
use Rattle.std.specs.Prelude.{◌≡◌, ℕ, List, Some, true, false, length, slice_get}
use Rattle.interval_model.specs.Space.{Space}
use Rattle.poly_graph.specs.Term.{Node, has_child}
use Rattle.cover_model.specs.NodeEnclosure.{row, node_enclosure}
use Rattle.ival.specs.declared.row_parts.Rows.{Rows}
use Rattle.ival.specs.RowViews.{rows_of, marks_of, is_marked}

-- node k, which is p, is not marked, if it has a child
abbrev pub IsCalm : Rows → ℕ → Node → Type 0
IsCalm r k p = (c : ℕ) → has_child c p ≡ true → is_marked (marks_of r) k ≡ false

abbrev pub IsSettled : Space → Rows → ℕ → Node → Type 0
IsSettled space r k p = row (rows_of r) k ≡ node_enclosure space (rows_of r) p

-- all nodes are settled but for marked ones
pub record Begun (nodes : List Node) (space : Space) (r : Rows) : Type 0 where
  pub count : length (rows_of r) ≡ length nodes
  pub settled : (k : ℕ) (p : Node) → slice_get nodes k ≡ Some p → IsCalm r k p → IsSettled space r k p
