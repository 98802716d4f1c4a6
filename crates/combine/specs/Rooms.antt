-- Room for the combinations of a problem.
use Rattle.std.specs.Prelude.{◌≡◌, List, length, vec_len}
use Rattle.poly_graph.specs.Term.{Node}
use Rattle.ival.specs.RowViews.{rows_of}
use Rattle.combine.specs.Parts.{needed_below}
use Rattle.combine.specs.declared.room.Room.{Room}

-- for the nodes of a graph
pub record FitsRoom (nodes : List Node) (r : Room) : Type 0 where
  pub adjoints : length (rows_of r.adjoints) ≡ length nodes
  pub squares : length (rows_of r.squares) ≡ length nodes
  pub parts : vec_len r.gathered.parts ≡ needed_below nodes (length nodes)
  pub lefts : vec_len r.lefts ≡ needed_below nodes (length nodes)
