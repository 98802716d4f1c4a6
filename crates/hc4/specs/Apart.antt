-- Nodes from which a changed axis is not reached.
use Rattle.std.specs.Prelude.{◌≡◌, ℕ, ◌<◌, List, Bool, true, false, Some, length, slice_get}
use Rattle.interval_model.specs.Interval.{Interval}
use Rattle.poly_graph.specs.Term.{Node, has_child}
use Rattle.cover_model.specs.NodeEnclosure.{row}
use Rattle.ival.specs.RowViews.{is_marked}

-- the rows of nodes without a mark are the same in both, and a child of such a node has no mark either
pub record IsApart (nodes : List Node) (es fs : List Interval) (marks : List Bool) : Type 0 where
  pub same : (k : ℕ) → k < length nodes → is_marked marks k ≡ false → row es k ≡ row fs k
  pub down : (k : ℕ) (p : Node) → slice_get nodes k ≡ Some p → is_marked marks k ≡ false → (c : ℕ) → has_child c p ≡ true → is_marked marks c ≡ false
