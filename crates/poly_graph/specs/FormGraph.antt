-- The shared graph of a form.
use Rattle.std.specs.Prelude.{◌≡◌, ◌⊎◌, ℕ, suc, ◌+◌, ◌≤◌, List, [], ◌∷◌, ◌++◌, length, Bool, true, ◌&&◌, IsTrue, Some, slice_get, slice_index_or, nat_lt}
use Rattle.std.specs.List.{list_all}
use Rattle.poly_graph.specs.Form.{Form, Forms, yes_form, no_form, atom_is, bool_is, all_form, any_form, no_forms, more_forms}

-- a node of a shared form, whose children have smaller numbers
pub data FormNode : Type 0 where
  yes_node no_node : FormNode
  atom_node : ℕ → FormNode
  bool_node : ℕ → Bool → FormNode
  all_node any_node : List ℕ → FormNode

-- the children of a node come before number n
abbrev pub form_comes_after : ℕ → FormNode → Bool
form_comes_after n (all_node ks) = list_all (λ k. nat_lt k n) ks
form_comes_after n (any_node ks) = list_all (λ k. nat_lt k n) ks
form_comes_after n node = true

-- of nodes from number n on, each comes after its children
abbrev pub forms_in_order : ℕ → List FormNode → Bool
forms_in_order n [] = true
forms_in_order n (node ∷ nodes) = form_comes_after n node && forms_in_order (suc n) nodes

abbrev pub form_at : List (Form ℕ) → ℕ → Form ℕ
form_at forms k = slice_index_or forms k no_form

abbrev pub picked : List (Form ℕ) → List ℕ → Forms ℕ
picked forms [] = no_forms
picked forms (k ∷ ks) = more_forms (form_at forms k) (picked forms ks)

-- the form of a node, where these are the forms of the nodes before it
abbrev pub node_form : List (Form ℕ) → FormNode → Form ℕ
node_form forms yes_node = yes_form
node_form forms no_node = no_form
node_form forms (atom_node j) = atom_is j
node_form forms (bool_node axis v) = bool_is axis v
node_form forms (all_node ks) = all_form (picked forms ks)
node_form forms (any_node ks) = any_form (picked forms ks)

-- the forms of nodes that come after these
abbrev pub forms_after : List (Form ℕ) → List FormNode → List (Form ℕ)
forms_after forms [] = forms
forms_after forms (n ∷ nodes) = forms_after (forms ++ (node_form forms n ∷ [])) nodes

-- the forms of a shared form's nodes, in order
abbrev pub graph_forms : List FormNode → List (Form ℕ)
graph_forms nodes = forms_after [] nodes

-- a node, and a place for each of its children
abbrev pub node_size : FormNode → ℕ
node_size (all_node ks) = suc (length ks)
node_size (any_node ks) = suc (length ks)
node_size n = 1

abbrev pub forms_size : List FormNode → ℕ
forms_size [] = 0
forms_size (n ∷ nodes) = node_size n + forms_size nodes

abbrev pub most_forms : ℕ
most_forms = 1048576

abbrev pub IsNewForm : List FormNode → FormNode → Type 0
IsNewForm nodes n = (k : ℕ) → slice_get nodes k ≡ Some n → ⊥

-- children come first, and no node stands twice
pub record IsFormGraph (nodes : List FormNode) : Type 0 where
  pub few : forms_size nodes ≤ most_forms
  pub ordered : IsTrue (forms_in_order 0 nodes)
  pub once : (j k : ℕ) (n : FormNode) → slice_get nodes j ≡ Some n → slice_get nodes k ≡ Some n → j ≡ k

-- number k is that of node n, which stood there or was added at the end
abbrev pub FormInterned : List FormNode → List FormNode → FormNode → ℕ → Type 0
FormInterned old new n k = (slice_get new k ≡ Some n) × ((new ≡ old) ⊎ ((new ≡ old ++ (n ∷ [])) × (k ≡ length old) × IsNewForm old n))
