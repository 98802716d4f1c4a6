-- Polynomial terms, their shared graph, and atoms.
use Rattle.std.specs.Prelude.{ℕ, zero, suc, List, [], ◌∷◌, ◌++◌, Bool, true, false, ◌&&◌, ◌||◌, slice_index_or, nat_eq, nat_lt}
use Rattle.dyadic.specs.Fraction.{Fraction, zero_fraction, negated, sum_of, product_of, at_most}
use Rattle.dyadic.specs.Point.{Coordinate, at_fraction, at_bool}

pub data Term : Type 0 where
  constant : Fraction → Term
  variable : ℕ → Term
  negate : Term → Term
  add : Term → Term → Term
  multiply : Term → Term → Term
  square : Term → Term

abbrev pub coordinate : List Coordinate → ℕ → Fraction
coordinate [] axis = zero_fraction
coordinate (at_fraction q ∷ rest) zero = q
coordinate (at_bool b ∷ rest) zero = zero_fraction
coordinate (c ∷ rest) (suc axis) = coordinate rest axis

-- the value of a term at a point
abbrev pub term_value : List Coordinate → Term → Fraction
term_value point (constant q) = q
term_value point (variable axis) = coordinate point axis
term_value point (negate t) = negated (term_value point t)
term_value point (add t u) = sum_of (term_value point t) (term_value point u)
term_value point (multiply t u) = product_of (term_value point t) (term_value point u)
term_value point (square t) = product_of (term_value point t) (term_value point t)

-- a node of a shared graph, whose children have smaller numbers
pub data Node : Type 0 where
  constant_node : Fraction → Node
  variable_node : ℕ → Node
  negate_node : ℕ → Node
  add_node : ℕ → ℕ → Node
  multiply_node : ℕ → ℕ → Node
  square_node : ℕ → Node

-- the children of a node come before number n
abbrev pub comes_after : ℕ → Node → Bool
comes_after n (negate_node a) = nat_lt a n
comes_after n (add_node a b) = nat_lt a n && nat_lt b n
comes_after n (multiply_node a b) = nat_lt a n && nat_lt b n
comes_after n (square_node a) = nat_lt a n
comes_after n node = true

-- whether s is a child of the node
abbrev pub has_child : ℕ → Node → Bool
has_child s (negate_node a) = nat_eq a s
has_child s (add_node a b) = nat_eq a s || nat_eq b s
has_child s (multiply_node a b) = nat_eq a s || nat_eq b s
has_child s (square_node a) = nat_eq a s
has_child s p = false

-- of nodes from number n on, each comes after its children
abbrev pub in_order : ℕ → List Node → Bool
in_order n [] = true
in_order n (node ∷ nodes) = comes_after n node && in_order (suc n) nodes

-- the term of a node, where these are the terms of the nodes before it
abbrev pub node_term : List Term → Node → Term
node_term terms (constant_node q) = constant q
node_term terms (variable_node axis) = variable axis
node_term terms (negate_node a) = negate (slice_index_or terms a (constant zero_fraction))
node_term terms (add_node a b) = add (slice_index_or terms a (constant zero_fraction)) (slice_index_or terms b (constant zero_fraction))
node_term terms (multiply_node a b) = multiply (slice_index_or terms a (constant zero_fraction)) (slice_index_or terms b (constant zero_fraction))
node_term terms (square_node a) = square (slice_index_or terms a (constant zero_fraction))

-- the terms of nodes that come after these
abbrev pub terms_after : List Term → List Node → List Term
terms_after terms [] = terms
terms_after terms (n ∷ nodes) = terms_after (terms ++ (node_term terms n ∷ [])) nodes

-- the terms of a graph's nodes, in order
abbrev pub graph_terms : List Node → List Term
graph_terms nodes = terms_after [] nodes

-- ---- atoms: a term is at most, at least or equal to 0

pub data Kind : Type 0 where
  le ge eq : Kind

-- a value lies in the range of a kind, loosened
abbrev pub in_range : Fraction → Kind → Fraction → Bool
in_range m le v = at_most v m
in_range m ge v = at_most (negated m) v
in_range m eq v = at_most (negated m) v && at_most v m

abbrev pub Atom : Type 0
Atom = Term × Kind

-- the atom holds at the point, loosened
abbrev pub atom_holds : Fraction → List Coordinate → Atom → Bool
atom_holds m point atom = in_range m atom.1 (term_value point atom.0)
