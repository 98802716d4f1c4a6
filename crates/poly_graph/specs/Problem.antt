-- Problems: declared axes, a shared graph, atoms, and the form that is to be met.
use Rattle.std.specs.Prelude.{ℕ, zero, suc, ◌^◌, ◌<◌, ◌≤◌, ◌⊎◌, List, [], ◌∷◌, map, length, All, Bool, true, false, cond, not, ◌&&◌, Option, Some, None, pos, nat_abs, IsTrue, slice_index_or}
use Rattle.std.specs.Int.{IsGcd}
use Rattle.dyadic.specs.Fraction.{Fraction, IsFraction, zero_fraction, whole, at_most}
use Rattle.dyadic.specs.Point.{Sort, real_sort, bool_sort, Coordinate, at_fraction, at_bool}
use Rattle.dyadic.specs.Rounding.{Dyadic, exact, IsOnGrid}
use Rattle.poly_graph.specs.Term.{Term, constant, variable, negate, add, multiply, square, Node, constant_node, variable_node, graph_terms, in_order, Kind, le, Atom}
use Rattle.poly_graph.specs.Form.{Form, Forms, yes_form, no_form, atom_is, bool_is, all_form, any_form, no_forms, more_forms}

-- what is declared of an axis: a Real one with its lower and its upper bound, or a Bool one
pub data Declared : Type 0 where
  real_between : Fraction → Fraction → Declared
  any_bool : Declared

-- the name is a list of bytes
pub record Axis : Type 0 where
  pub name : List ℕ
  pub declared : Declared

-- an atom is the number of its term's node, with its kind; the form names atoms by number
pub record Problem : Type 0 where
  pub axes : List Axis
  pub nodes : List Node
  pub atoms : List (ℕ × Kind)
  pub form : Form ℕ

-- ---- sorts

abbrev pub sort_of : Declared → Sort
sort_of (real_between l h) = real_sort
sort_of any_bool = bool_sort

abbrev pub sorts_of_axes : List Axis → List Sort
sorts_of_axes axes = map (λ a. sort_of a.declared) axes

abbrev pub sorts_of_problem : Problem → List Sort
sorts_of_problem p = sorts_of_axes p.axes

-- ---- atoms

abbrev pub no_place : ℕ × Kind
no_place = (0, le)

abbrev pub atom_at : Problem → ℕ → ℕ × Kind
atom_at p j = slice_index_or p.atoms j no_place

-- the term of an atom
abbrev pub term_of : Problem → ℕ → Term
term_of p j = slice_index_or (graph_terms p.nodes) (atom_at p j).0 (constant zero_fraction)

-- the atom as a term and a kind
abbrev pub full_atom : Problem → ℕ → Atom
full_atom p j = (term_of p j, (atom_at p j).1)

-- what an atom's number means where there is no such atom
abbrev pub no_atom : Atom
no_atom = (constant zero_fraction, le)

-- a Bool axis has this value at the point
abbrev pub bool_holds : List Coordinate → ℕ → Bool → Bool
bool_holds [] axis v = false
bool_holds (at_bool b ∷ point) zero v = cond v b (not b)
bool_holds (at_fraction q ∷ point) zero v = false
bool_holds (c ∷ point) (suc axis) v = bool_holds point axis v

-- ---- the declared box

abbrev pub in_declared : Declared → Coordinate → Bool
in_declared (real_between l h) (at_fraction q) = at_most l q && at_most q h
in_declared any_bool (at_bool b) = true
in_declared _ _ = false

abbrev pub in_declared_axes : List Axis → List Coordinate → Bool
in_declared_axes [] [] = true
in_declared_axes (a ∷ axes) (c ∷ point) = in_declared a.declared c && in_declared_axes axes point
in_declared_axes _ _ = false

-- the point lies between the declared bounds
abbrev pub in_declared_box : Problem → List Coordinate → Bool
in_declared_box p point = in_declared_axes p.axes point

-- ---- bounds that cross

-- the declared lower bound is above the upper one
abbrev pub is_crossed : Declared → Bool
is_crossed (real_between l h) = not (at_most l h)
is_crossed any_bool = false

abbrev pub crossed_in : List Axis → ℕ → Bool
crossed_in [] i = false
crossed_in (a ∷ axes) zero = is_crossed a.declared
crossed_in (a ∷ axes) (suc i) = crossed_in axes i

-- the bounds of axis i cross, so the declared box is empty
abbrev pub crosses : Problem → ℕ → Bool
crosses p i = crossed_in p.axes i

abbrev pub first_crossed_from : ℕ → List Axis → Option ℕ
first_crossed_from i [] = None
first_crossed_from i (a ∷ axes) = cond (is_crossed a.declared) (Some i) (first_crossed_from (suc i) axes)

-- the first axis whose bounds cross
abbrev pub first_crossed : Problem → Option ℕ
first_crossed p = first_crossed_from 0 p.axes

-- ---- what a problem's type keeps

-- q without its sign
abbrev pub size_of : Fraction → Fraction
size_of q = record { num = pos (nat_abs q.num); den = q.den }

-- q is a number that is kept
abbrev pub IsKeptFraction : Fraction → Type 0
IsKeptFraction q = (d : Dyadic) × IsOnGrid d × IsTrue (at_most (exact d) q) × IsTrue (at_most q (exact d))

-- a bound that rounding leaves finite and moves by little: a number that is kept, or one of size at most 2^32
abbrev pub IsBound : Fraction → Type 0
IsBound q = IsFraction q × (IsKeptFraction q ⊎ IsTrue (at_most (size_of q) (whole (pos (2 ^ 32)))))

abbrev pub IsDeclared : Declared → Type 0
IsDeclared (real_between l h) = IsBound l × IsBound h
IsDeclared any_bool = Unit {0}

-- a constant in lowest terms, of size at most 10^36 above and below the line
abbrev pub IsConstant : Fraction → Type 0
IsConstant q = IsFraction q × IsGcd (nat_abs q.num) q.den 1 × (nat_abs q.num ≤ 10 ^ 36) × (q.den ≤ 10 ^ 36)

-- an axis of this sort
abbrev pub HasSort : Sort → List Sort → ℕ → Type 0
HasSort s [] i = ⊥
HasSort real_sort (real_sort ∷ sorts) zero = Unit {0}
HasSort bool_sort (bool_sort ∷ sorts) zero = Unit {0}
HasSort s (t ∷ sorts) zero = ⊥
HasSort s (t ∷ sorts) (suc i) = HasSort s sorts i

-- the term's constants are fractions, and its variables are Real axes
abbrev pub IsTerm : List Sort → Term → Type 0
IsTerm sorts (constant q) = IsFraction q
IsTerm sorts (variable axis) = HasSort real_sort sorts axis
IsTerm sorts (negate t) = IsTerm sorts t
IsTerm sorts (add t u) = IsTerm sorts t × IsTerm sorts u
IsTerm sorts (multiply t u) = IsTerm sorts t × IsTerm sorts u
IsTerm sorts (square t) = IsTerm sorts t

-- constants are kept in lowest terms, and variables are Real axes
abbrev pub IsNode : List Sort → Node → Type 0
IsNode sorts (constant_node q) = IsConstant q
IsNode sorts (variable_node axis) = HasSort real_sort sorts axis
IsNode sorts n = Unit {0}

-- the form names atoms below this number, and Bool axes
abbrev mutual
  pub IsForm : List Sort → ℕ → Form ℕ → Type 0
  IsForm sorts n yes_form = Unit {0}
  IsForm sorts n no_form = Unit {0}
  IsForm sorts n (atom_is j) = j < n
  IsForm sorts n (bool_is axis v) = HasSort bool_sort sorts axis
  IsForm sorts n (all_form fs) = AreForms sorts n fs
  IsForm sorts n (any_form fs) = AreForms sorts n fs

  pub AreForms : List Sort → ℕ → Forms ℕ → Type 0
  AreForms sorts n no_forms = Unit {0}
  AreForms sorts n (more_forms f fs) = IsForm sorts n f × AreForms sorts n fs

pub record IsProblem (p : Problem) : Type 0 where
  pub bounds : All (λ (a : Axis). IsDeclared a.declared) p.axes
  pub ordered : IsTrue (in_order 0 p.nodes)
  pub nodes : All (IsNode (sorts_of_axes p.axes)) p.nodes
  pub atoms : All (λ (a : ℕ × Kind). a.0 < length p.nodes) p.atoms
  pub form : IsForm (sorts_of_axes p.axes) (length p.atoms) p.form
