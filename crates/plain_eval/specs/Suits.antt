-- Room that fits a graph, and what is in it.
use Rattle.std.specs.Prelude.{◌≡◌, ℕ, List, None, length}
use Rattle.poly_graph.specs.Term.{Node}
use Rattle.ival.specs.RowViews.{rows_of}
use Rattle.ival.specs.Options.{option_at}
use Rattle.plain_eval.specs.declared.room.Coefficients.{Coefficients}
use Rattle.plain_eval.specs.declared.room.Room.{Room}

-- as many coefficients as nodes
pub record AreFor (nodes : List Node) (c : Coefficients) : Type 0 where
  pub linear : length (rows_of c.linear) ≡ length nodes
  pub square : length (rows_of c.square) ≡ length nodes

pub record Suits (nodes : List Node) (r : Room) : Type 0 where
  pub coefficients : AreFor nodes r.coefficients
  pub ranges : length (rows_of r.ranges) ≡ length nodes
  pub left : length (rows_of r.left) ≡ length nodes

-- no square has a coefficient whose difference has none
abbrev pub AreUnder : Coefficients → Type 0
AreUnder c = (k : ℕ) → option_at c.linear k ≡ None → option_at c.square k ≡ None
