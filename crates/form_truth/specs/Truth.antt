-- The truth of a form's node, from those of its children, and rows that serve.
use Rattle.std.specs.Prelude.{◌≡◌, ℕ, ◌<◌, List, length, Bool, true, false, slice_index_or, cond, nat_lt}
use Rattle.std.specs.List.{list_all, list_any}
use Rattle.dyadic.specs.Rounding.{two_to_minus}
use Rattle.interval_model.specs.Interval.{Interval}
use Rattle.poly_graph.specs.FormGraph.{FormNode, yes_node, no_node, atom_node, bool_node, all_node, any_node}
use Rattle.interval_model.specs.Space.{Space}
use Rattle.cover_model.specs.State.{atom_enclosure, Loosenings, State, may, may_atom, sure_at, sure_within, domain_allows, domain_is}
use Rattle.poly_graph.specs.Problem.{atom_at}
use Rattle.poly_graph.specs.ProblemViews.{Parts, problem_of}
use Rattle.cover_model.specs.NodeEnclosure.{row}

abbrev pub is_true : List Bool → ℕ → Bool
is_true truths k = slice_index_or truths k false

-- given the truth of the atoms, of the Bool values and of the nodes before
abbrev pub node_truth : (ℕ → Bool) → (ℕ → Bool → Bool) → List Bool → FormNode → Bool
node_truth atoms bools truths yes_node = true
node_truth atoms bools truths no_node = false
node_truth atoms bools truths (atom_node j) = atoms j
node_truth atoms bools truths (bool_node axis v) = bools axis v
node_truth atoms bools truths (all_node ks) = list_all (is_true truths) ks
node_truth atoms bools truths (any_node ks) = list_any (is_true truths) ks

-- the row of each atom's term is the term's enclosure over the space
pub record HasRows (p : Parts) (space : Space) (es : List Interval) : Type 0 where
  pub count : length es ≡ length p.nodes
  pub rows : (j : ℕ) → j < length p.atoms → row es (atom_at (problem_of p) j).0 ≡ atom_enclosure (problem_of p) space j

-- the test of an atom, and false where there is no such atom
abbrev pub of_atoms : Parts → (ℕ → Bool) → ℕ → Bool
of_atoms p test j = cond (nat_lt j (length p.atoms)) (test j) false

-- the loosenings, where those of points do not matter
abbrev pub pruning : ℕ → Loosenings
pruning margin = record { margin_bits = margin; delta_bits = 0; version = 2 }

-- ---- atoms, nodes and the form of a problem

-- the atom may hold at a point of the state, and false where there is no such atom
abbrev pub atom_may_hold : Parts → ℕ → State → ℕ → Bool
atom_may_hold p margin S = of_atoms p (may_atom (problem_of p) (pruning margin) S)

-- the atom surely holds over the space, and false where there is no such atom
abbrev pub atom_is_sure : Parts → ℕ → Space → ℕ → Bool
atom_is_sure p delta space = of_atoms p (sure_at (problem_of p) (two_to_minus delta) space)

-- a node whose children may hold where these are true
abbrev pub node_may_hold : Parts → ℕ → State → List Bool → FormNode → Bool
node_may_hold p margin S = node_truth (atom_may_hold p margin S) (domain_allows S.space)

-- a node whose children are sure where these are true
abbrev pub node_is_sure : Parts → ℕ → Space → List Bool → FormNode → Bool
node_is_sure p delta space = node_truth (atom_is_sure p delta space) (domain_is space)

abbrev pub form_may_hold : Parts → ℕ → State → Bool
form_may_hold p margin S = may (problem_of p) (pruning margin) S

abbrev pub form_is_sure : Parts → ℕ → Space → Bool
form_is_sure p delta space = sure_within (problem_of p) (two_to_minus delta) space
