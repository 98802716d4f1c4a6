-- What is asked of the marks at one node.
use Rattle.std.specs.Prelude.{◌≡◌, ℕ, List, Bool, true, false, Some, get_or, slice_get}
use Rattle.poly_graph.specs.Term.{Node, has_child}

-- where the node is marked, so are its children
abbrev pub IsClosedAt : List Node → List Bool → ℕ → Type 0
IsClosedAt nodes marks k = (node : Node) → slice_get nodes k ≡ Some node → get_or marks k false ≡ true → (i : ℕ) → has_child i node ≡ true → get_or marks i false ≡ true
