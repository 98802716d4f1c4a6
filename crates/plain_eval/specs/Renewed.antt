-- One node that is enclosed again.
use Rattle.std.specs.Prelude.{◌≡◌, ℕ, List, Some, true, false, slice_get, slice_set}
use Rattle.interval_model.specs.Space.{Space}
use Rattle.poly_graph.specs.Term.{Node, has_child}
use Rattle.cover_model.specs.NodeEnclosure.{row, node_enclosure}
use Rattle.ival.specs.declared.row_parts.Rows.{Rows}
use Rattle.ival.specs.RowViews.{rows_of, marks_of, is_marked}

-- the row of node n, which is p, has the node's enclosure from the rows of its children; where that is a change the node and its parents are marked, and no mark is taken away
pub record IsRenewed (nodes : List Node) (space : Space) (n : ℕ) (p : Node) (old new : Rows) : Type 0 where
  pub rows : rows_of new ≡ slice_set (rows_of old) n (node_enclosure space (rows_of old) p)
  pub here : is_marked (marks_of new) n ≡ false → row (rows_of old) n ≡ node_enclosure space (rows_of old) p
  pub marks : (k : ℕ) → is_marked (marks_of new) k ≡ false → is_marked (marks_of old) k ≡ false
  pub parents : (k : ℕ) (q : Node) → slice_get nodes k ≡ Some q → has_child n q ≡ true → is_marked (marks_of new) k ≡ false → row (rows_of old) n ≡ node_enclosure space (rows_of old) p

-- rows that changed are marked
abbrev pub AreKept : Rows → Rows → Type 0
AreKept old new = (k : ℕ) → is_marked (marks_of new) k ≡ false → row (rows_of new) k ≡ row (rows_of old) k
