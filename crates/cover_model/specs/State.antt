-- States of a cover, their points, and the bounds on the form's truth over a space.
use Rattle.std.specs.Prelude.{ℕ, zero, suc, List, [], ◌∷◌, length, replicate, Bool, false, not, ◌&&◌, IsTrue, slice_set}
use Rattle.dyadic.specs.Point.{Coordinate, IsPoint}
use Rattle.dyadic.specs.Rounding.{Dyadic, exact, two_to_minus}
use Rattle.interval_model.specs.Interval.{Interval, met, is_nothing, within}
use Rattle.poly_graph.specs.Marks.{Mark, marked_yes, marked_no, unmarked, is_yes, is_no, mark_at, undecided_in, marks_within}
use Rattle.poly_graph.specs.Term.{atom_holds}
use Rattle.poly_graph.specs.Form.{form_truth}
use Rattle.interval_model.specs.Space.{Space, in_space, space_within, allows}
use Rattle.cover_model.specs.Space.{enclosure, range}
use Rattle.poly_graph.specs.Problem.{Problem, sorts_of_problem, atom_at, term_of, full_atom, bool_holds}
use Rattle.cover_model.specs.Root.{root_space}

-- a space with a mark for each atom, by number
pub record State : Type 0 where
  pub space : Space
  pub marks : List Mark

-- what the lines of a cover are read by: the loosenings of pruning, 2^-margin_bits, and of points, 2^-delta_bits, and the
-- version of the certificate's format, which says what lines there are
pub record Loosenings : Type 0 where
  pub margin_bits : ℕ
  pub delta_bits : ℕ
  pub version : ℕ

abbrev pub in_version : ℕ → Loosenings → Loosenings
in_version v s = record s { version = v }

abbrev pub margin_of : Loosenings → Dyadic
margin_of s = two_to_minus s.margin_bits

abbrev pub delta_of : Loosenings → Dyadic
delta_of s = two_to_minus s.delta_bits

abbrev pub state_of : Space → List Mark → State
state_of space marks = record { space = space; marks = marks }

-- ---- marks of a state

abbrev pub in_yes : State → ℕ → Bool
in_yes S j = is_yes (mark_at S.marks j)

abbrev pub in_no : State → ℕ → Bool
in_no S j = is_no (mark_at S.marks j)

abbrev pub undecided : State → ℕ → Bool
undecided S j = undecided_in S.marks j

abbrev pub with_mark : State → ℕ → Mark → State
with_mark S j m = record { space = S.space; marks = slice_set S.marks j m }

abbrev pub with_yes : State → ℕ → State
with_yes S j = with_mark S j marked_yes

abbrev pub with_no : State → ℕ → State
with_no S j = with_mark S j marked_no

abbrev pub with_space : State → Space → State
with_space S space = record { space = space; marks = S.marks }

-- no Bool decided, no atom marked
abbrev pub root_state : Problem → State
root_state p = record { space = root_space p; marks = replicate (length p.atoms) unmarked }

-- ---- whether the form may hold, and whether it surely does

abbrev pub atom_enclosure : Problem → Space → ℕ → Interval
atom_enclosure p space j = enclosure space (term_of p j)

-- the atom's enclosure misses its range
abbrev pub misses : Problem → Dyadic → Space → ℕ → Bool
misses p m space j = is_nothing (met (atom_enclosure p space j) (range m (atom_at p j).1))

abbrev pub may_atom : Problem → Loosenings → State → ℕ → Bool
may_atom p s S j = not (in_no S j) && not (misses p (margin_of s) S.space j)

-- the value is left to the Bool axis
abbrev pub domain_allows : Space → ℕ → Bool → Bool
domain_allows [] axis v = false
domain_allows (d ∷ space) zero v = allows d v
domain_allows (d ∷ space) (suc axis) v = domain_allows space axis v

-- false only where no point of the state meets the form
abbrev pub may : Problem → Loosenings → State → Bool
may p s S = form_truth (may_atom p s S) (domain_allows S.space) p.form

-- the atom's enclosure lies within its range
abbrev pub sure_at : Problem → Dyadic → Space → ℕ → Bool
sure_at p m space j = within (atom_enclosure p space j) (range m (atom_at p j).1)

-- the value is the only one that is left to the Bool axis
abbrev pub domain_is : Space → ℕ → Bool → Bool
domain_is space axis v = domain_allows space axis v && not (domain_allows space axis (not v))

-- true only where each point of the space meets the form, loosened by m
abbrev pub sure_within : Problem → Dyadic → Space → Bool
sure_within p m space = form_truth (sure_at p m space) (domain_is space) p.form

abbrev pub sure : Problem → Loosenings → Space → Bool
sure p s space = sure_within p (delta_of s) space

-- ---- the points of a state

-- each atom marked yes holds at margin, and none marked no does
pub record IsPointOf (p : Problem) (s : Loosenings) (S : State) (point : List Coordinate) : Type 0 where
  pub sorted : IsPoint (sorts_of_problem p) point
  pub inside : IsTrue (in_space S.space point)
  pub yes : (j : ℕ) → IsTrue (in_yes S j) → IsTrue (atom_holds (exact (margin_of s)) point (full_atom p j))
  pub no : (j : ℕ) → IsTrue (in_no S j) → IsTrue (not (atom_holds (exact (margin_of s)) point (full_atom p j)))

-- the form holds at the point, each atom loosened by m
abbrev pub MeetsAt : Problem → Dyadic → List Coordinate → Type 0
MeetsAt p m point = IsTrue (form_truth (λ j. atom_holds (exact m) point (full_atom p j)) (bool_holds point) p.form)

-- the form holds at the point, each atom loosened by the margin
abbrev pub MeetsForm : Problem → Loosenings → List Coordinate → Type 0
MeetsForm p s point = MeetsAt p (margin_of s) point

-- no point of the state meets the form
abbrev pub IsLemma : Problem → Loosenings → State → Type 0
IsLemma p s L = (point : List Coordinate) → IsPointOf p s L point → MeetsForm p s point → ⊥

-- ---- covering

-- the lemma's state covers the state
abbrev pub covers : State → State → Bool
covers L S = space_within S.space L.space && marks_within L.marks S.marks
