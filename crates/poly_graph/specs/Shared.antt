-- What a shared graph keeps: its nodes in order, each of them once, and a table with the number of each.
use Rattle.std.specs.Prelude.{◌≡◌, ◌⊎◌, ℕ, ◌≤◌, List, [], ◌∷◌, ◌++◌, map, length, Bool, IsTrue, Some, slice_get, slice_index_or}
use Rattle.dyadic.specs.Fraction.{zero_fraction}
use Rattle.std.specs.HashMap.{HashMap, get}
use Rattle.poly_graph.specs.contracts.node.NodePartialEq.TheImpl as node_eq
use Rattle.poly_graph.specs.declared.node.Node.{Node}
use Rattle.poly_graph.specs.Term
use Rattle.poly_graph.specs.Term.{in_order, graph_terms, constant}
use Rattle.poly_graph.specs.Views.{node_of}

-- what `==` of two nodes says
abbrev pub same_node : Node → Node → Bool
same_node = (node_eq.ghosts).eq

abbrev pub most_nodes : ℕ
most_nodes = 1048576

-- no node of the graph is this one
abbrev pub IsNew : List Term.Node → Term.Node → Type 0
IsNew nodes n = (k : ℕ) → slice_get nodes k ≡ Some n → ⊥

-- children come first, and no node stands twice
pub record IsGraph (nodes : List Term.Node) : Type 0 where
  pub few : length nodes ≤ most_nodes
  pub ordered : IsTrue (in_order 0 nodes)
  pub once : (j k : ℕ) (n : Term.Node) → slice_get nodes j ≡ Some n → slice_get nodes k ≡ Some n → j ≡ k

-- the table has the number of each node, and of nothing else
pub record IsShared {S : Type 0} (nodes : List Node) (numbers : HashMap Node ℕ S) : Type 0 where
  pub few : length nodes ≤ most_nodes
  pub ordered : IsTrue (in_order 0 (map node_of nodes))
  pub found : (q : Node) (k : ℕ) → get same_node numbers q ≡ Some k → slice_get (map node_of nodes) k ≡ Some (node_of q)
  pub known : (q : Node) (k : ℕ) → slice_get (map node_of nodes) k ≡ Some (node_of q) → get same_node numbers q ≡ Some k

-- number k is that of node n, which stood there or was added at the end
abbrev pub Interned : List Term.Node → List Term.Node → Term.Node → ℕ → Type 0
Interned old new n k = (slice_get new k ≡ Some n) × ((new ≡ old) ⊎ ((new ≡ old ++ (n ∷ [])) × (k ≡ length old) × IsNew old n))

-- the terms of nodes a and b are one and the same tree
abbrev pub HaveSameTerm : List Term.Node → ℕ → ℕ → Type 0
HaveSameTerm nodes a b = slice_index_or (graph_terms nodes) a (constant zero_fraction) ≡ slice_index_or (graph_terms nodes) b (constant zero_fraction)
