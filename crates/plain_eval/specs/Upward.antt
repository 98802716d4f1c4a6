-- What stands above what in a graph: the parents of its nodes, and its variables.
use Rattle.std.specs.Prelude.{◌≡◌, ℕ, ◌<◌, List, [], ◌∷◌, ◌++◌, Some, length, slice_get, slice_index}
use Rattle.poly_graph.specs.Term.{Node, variable_node}
use Rattle.poly_graph.specs.Parents.{AreParents}
use Rattle.plain_eval.specs.declared.upward.Upward.{Upward}

-- all variables among the first n nodes have their numbers here, and each number is below n
pub record AreVariables (nodes : List Node) (n : ℕ) (variables : List ℕ) : Type 0 where
  pub inside : (i : ℕ) → i < length variables → slice_index variables i < n
  pub all : (k axis : ℕ) → k < n → slice_get nodes k ≡ Some (variable_node axis) → (i : ℕ) × (i < length variables) × (slice_index variables i ≡ k)

-- with the number of one more node, if it is a variable
abbrev pub with_node : Node → ℕ → List ℕ → List ℕ
with_node (variable_node axis) n variables = variables ++ (n ∷ [])
with_node _ n variables = variables

pub record IsUpward (nodes : List Node) (u : Upward) : Type 0 where
  pub parents : AreParents nodes u.parents
  pub variables : AreVariables nodes (length nodes) u.variables.items
