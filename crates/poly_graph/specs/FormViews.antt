-- The code's nodes of forms as the definitions see them, and the table that finds them.
use Rattle.std.specs.Prelude.{◌≡◌, ℕ, ◌<◌, ◌+◌, ◌≤◌, List, map, Bool, IsTrue, Some, slice_get}
use Rattle.std.specs.HashMap.{HashMap, get, Updates}
use Rattle.poly_graph.specs.contracts.form_node.FormNodePartialEq.TheImpl as form_eq
use Rattle.poly_graph.specs.declared.form_node.FormNode.{FormNode}
use Rattle.poly_graph.specs.declared.form_node.FormNode.TheVariants.{True, False, AtomIs, BoolIs, And, Or}
use Rattle.poly_graph.specs.declared.refused.NoNode.{NoNode}
use Rattle.poly_graph.specs.declared.refused.NoNode.TheVariants.{TooMany, Memory}
use Rattle.poly_graph.specs.declared.refused.Limit.TheVariants.{Nodes, Atoms, Forms}
use Rattle.poly_graph.specs.FormGraph
use Rattle.poly_graph.specs.FormGraph.{yes_node, no_node, atom_node, bool_node, all_node, any_node, forms_in_order, forms_size, node_size, most_forms, IsNewForm}

abbrev pub form_node_of : FormNode → FormGraph.FormNode
form_node_of True = yes_node
form_node_of False = no_node
form_node_of (AtomIs j) = atom_node j
form_node_of (BoolIs axis v) = bool_node axis v
form_node_of (And ks) = all_node ks.items
form_node_of (Or ks) = any_node ks.items

-- what `==` of two nodes says
abbrev pub same_form_node : FormNode → FormNode → Bool
same_form_node = (form_eq.ghosts).eq

-- the table has the number of each node, and of nothing else; the size is that of all nodes
pub record IsSharedForm {S : Type 0} (nodes : List FormNode) (numbers : HashMap FormNode ℕ S) (size : ℕ) : Type 0 where
  pub sized : size ≡ forms_size (map form_node_of nodes)
  pub few : size ≤ most_forms
  pub ordered : IsTrue (forms_in_order 0 (map form_node_of nodes))
  pub found : (q : FormNode) (k : ℕ) → get same_form_node numbers q ≡ Some k → slice_get (map form_node_of nodes) k ≡ Some (form_node_of q)
  pub known : (q : FormNode) (k : ℕ) → slice_get (map form_node_of nodes) k ≡ Some (form_node_of q) → get same_form_node numbers q ≡ Some k

-- the table has the number at a node like this one, and is else the same
pub record PutsLike {S : Type 0} (numbers after : HashMap FormNode ℕ S) (node : FormNode) (n : ℕ) : Type 0 where
  pub key : FormNode
  pub alike : form_node_of key ≡ form_node_of node
  pub updates : Updates same_form_node numbers after key (Some n)

-- where a node is refused the form is as it was; it is one too many exactly where it is new and does not fit
abbrev pub FormRefused : List FormGraph.FormNode → List FormGraph.FormNode → FormGraph.FormNode → NoNode → Type 0
FormRefused old new n (TooMany Forms) = (new ≡ old) × (most_forms < forms_size old + node_size n) × IsNewForm old n
FormRefused old new n (TooMany Atoms) = ⊥
FormRefused old new n (TooMany Nodes) = ⊥
FormRefused old new n Memory = new ≡ old
