-- Marks of nodes, one node after the other.
use Rattle.std.specs.Prelude.{ℕ, List, Bool, false, cond, get_or, slice_get}
use Rattle.poly_graph.specs.Term.{Node}
use Rattle.square_model.specs.Positive.{with_children}

-- with the children of node n, where it is marked
abbrev pub visited : List Node → ℕ → List Bool → List Bool
visited nodes n marks = cond (get_or marks n false) (with_children (slice_get nodes n) marks) marks
