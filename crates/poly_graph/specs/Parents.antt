-- The parents of a graph's nodes.
use Rattle.std.specs.Prelude.{◌≡◌, ℕ, suc, List, [], ◌∷◌, ◌++◌, length, Bool, cond, slice_index_or, nat_eq}
use Rattle.poly_graph.specs.Term.{Node, has_child}

-- of nodes from number k on, the numbers of those that have s as a child
abbrev pub parents_from : ℕ → ℕ → List Node → List ℕ
parents_from s k [] = []
parents_from s k (n ∷ nodes) = cond (has_child s n) (k ∷ parents_from s (suc k) nodes) (parents_from s (suc k) nodes)

-- the numbers of the nodes that have s as a child, rising, each once
abbrev pub parents_of : List Node → ℕ → List ℕ
parents_of nodes s = parents_from s 0 nodes

abbrev pub row_at : List (List ℕ) → ℕ → List ℕ
row_at rows s = slice_index_or rows s []

-- for each node of the graph, its parents
pub record AreParents (nodes : List Node) (rows : List (List ℕ)) : Type 0 where
  pub long : length rows ≡ length nodes
  pub each : (s : ℕ) → row_at rows s ≡ parents_of nodes s

-- the list, with one more at its end where this holds
abbrev pub with_one : Bool → List ℕ → ℕ → List ℕ
with_one b xs n = cond b (xs ++ (n ∷ [])) xs

-- row s has n at its end, the others are as they were
pub record IsPushed (rows rows' : List (List ℕ)) (s n : ℕ) : Type 0 where
  pub long : length rows' ≡ length rows
  pub each : (t : ℕ) → row_at rows' t ≡ with_one (nat_eq s t) (row_at rows t) n

-- the row of each child of the node has n at its end, the others are as they were
pub record IsNoted (rows rows' : List (List ℕ)) (node : Node) (n : ℕ) : Type 0 where
  pub long : length rows' ≡ length rows
  pub each : (t : ℕ) → row_at rows' t ≡ with_one (has_child t node) (row_at rows t) n
