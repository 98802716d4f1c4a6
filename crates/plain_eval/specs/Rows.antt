-- Rows that are enclosures, all of them or up to a node.
use Rattle.std.specs.Prelude.{◌≡◌, ◌≤◌, ℕ, List}
use Rattle.interval_model.specs.Interval.{Interval}
use Rattle.interval_model.specs.Space.{Space}
use Rattle.poly_graph.specs.Term.{Node}
use Rattle.cover_model.specs.Narrowed.{enclosures}
use Rattle.cover_model.specs.NodeEnclosure.{row}

-- the rows up to this one are the same
abbrev pub AgreeUpTo : ℕ → List Interval → List Interval → Type 0
AgreeUpTo n rows es = (k : ℕ) → k ≤ n → row rows k ≡ row es k

-- the rows are the enclosures of the nodes over some space
pub record AreEnclosures (nodes : List Node) (rows : List Interval) : Type 0 where
  pub space : Space
  pub filled : rows ≡ enclosures space nodes
