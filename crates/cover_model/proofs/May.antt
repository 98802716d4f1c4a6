-- Where a point of a state meets the form, `may` is true; where `sure` holds over a space, each of its points meets the form.
use Rattle.std.proofs.Common.{◌≡◌, ℕ, suc, zero, List, [], ◌∷◌, Bool, true, false, not, ◌&&◌, cond, IsTrue, refl, ap, sym, true≢false, subst, lit<, arith, ◌-◌}
use Rattle.dyadic.specs.Fraction.{Fraction, IsFraction}
use Rattle.dyadic.specs.Point.{Coordinate, at_fraction, at_bool, IsPoint}
use Rattle.dyadic.specs.Rounding.{Dyadic, exact, IsOnGrid, IsRepresentable, two_to_minus}
use Rattle.dyadic.proofs.Ints.{nat_abs-neg}
use Rattle.interval_model.proofs.InversesSquares.{IsKept}
use Rattle.interval_model.specs.Interval.{Interval, nothing, between, met, is_nothing}
use Rattle.dyadic.proofs.Equal.{both_true, both_pass}
use Rattle.interval_model.proofs.Holds.{Holds, met_holds, within_holds}
use Rattle.poly_graph.specs.Term.{Kind, le, ge, eq, atom_holds, in_range, term_value}
use Rattle.interval_model.specs.Space.{Domain, real_domain, bool_domain, Space, in_domain, in_space, allows}
use Rattle.cover_model.specs.Space.{range}
use Rattle.poly_graph.specs.Problem.{Problem, IsProblem, sorts_of_problem, atom_at, term_of, full_atom, bool_holds}
use Rattle.cover_model.specs.State.{State, Loosenings, margin_of, in_no, misses, atom_enclosure, may_atom, may, domain_allows, sure_at, domain_is, sure_within, IsPointOf, MeetsForm, MeetsAt}
use Rattle.cover_model.proofs.Encloses.{enclosure_holds}
use Rattle.poly_graph.proofs.Forms.{rises}
use Rattle.poly_graph.proofs.Graphs.{terms_are}
use Rattle.poly_graph.proofs.Bools.{not_both, not_false}

-- ---- Bool axes

in-allows : (d : Domain) (b v : Bool) → IsTrue (in_domain d (at_bool b)) → IsTrue (cond v b (not b)) → IsTrue (allows d v)
in-allows (bool_domain f t) true true h e = h
in-allows (bool_domain f t) false false h e = h
in-allows (bool_domain f t) true false h e = absurd (true≢false (sym e))
in-allows (bool_domain f t) false true h e = absurd (true≢false (sym e))
in-allows (real_domain l u) b v h e = absurd (true≢false (sym h))

-- the value that a Bool axis has at a point of the space is left there
pub left_there : (space : Space) (point : List Coordinate) → IsTrue (in_space space point) → (axis : ℕ) (v : Bool) → IsTrue (bool_holds point axis v) → IsTrue (domain_allows space axis v)
left_there (d ∷ space) (at_bool b ∷ point) h zero v e = in-allows d b v (both_true (in_domain d (at_bool b)) (in_space space point) h).0 e
left_there (d ∷ space) (at_bool b ∷ point) h (suc axis) v e = left_there space point (both_true (in_domain d (at_bool b)) (in_space space point) h).1 axis v e
left_there (d ∷ space) (at_fraction q ∷ point) h zero v e = absurd (true≢false (sym e))
left_there (d ∷ space) (at_fraction q ∷ point) h (suc axis) v e = left_there space point (both_true (in_domain d (at_fraction q)) (in_space space point) h).1 axis v e
left_there (d ∷ space) [] h axis v e = absurd (true≢false (sym h))
left_there [] (c ∷ point) h axis v e = absurd (true≢false (sym h))
left_there [] [] h axis v e = absurd (true≢false (sym e))

only-value : (d : Domain) (c : Coordinate) (v : Bool) → IsTrue (allows d v) → IsTrue (not (allows d (not v))) → IsTrue (in_domain d c) → (rest : List Coordinate) → IsTrue (bool_holds (c ∷ rest) 0 v)
only-value (bool_domain f t) (at_bool true) true a n i rest = refl
only-value (bool_domain f t) (at_bool false) false a n i rest = refl
only-value (bool_domain f t) (at_bool false) true a n i rest = absurd (not_both f i n)
only-value (bool_domain f t) (at_bool true) false a n i rest = absurd (not_both t i n)
only-value (bool_domain f t) (at_fraction q) v a n i rest = absurd (true≢false (sym i))
only-value (real_domain l u) c v a n i rest = absurd (true≢false (sym a))

later-value : (c : Coordinate) (rest : List Coordinate) (axis : ℕ) (v : Bool) → IsTrue (bool_holds rest axis v) → IsTrue (bool_holds (c ∷ rest) (suc axis) v)
later-value (at_fraction q) rest axis v h = h
later-value (at_bool b) rest axis v h = h

-- the only value that is left to a Bool axis is that of each point
pub is_there : (space : Space) (point : List Coordinate) → IsTrue (in_space space point) → (axis : ℕ) (v : Bool) → IsTrue (domain_is space axis v) → IsTrue (bool_holds point axis v)
is_there [] point i axis v h = absurd (true≢false (sym h))
is_there (d ∷ space) [] i axis v h = absurd (true≢false (sym i))
is_there (d ∷ space) (c ∷ point) i zero v h = let a = both_true (allows d v) (not (allows d (not v))) h in only-value d c v a.0 a.1 (both_true (in_domain d c) (in_space space point) i).0 point
is_there (d ∷ space) (c ∷ point) i (suc axis) v h = later-value c point axis v (is_there space point (both_true (in_domain d c) (in_space space point) i).1 axis v h)

-- ---- ranges

-- a value in the range of a kind
pub range_holds : (m : Dyadic) (k : Kind) (v : Fraction) → IsTrue (in_range (exact m) k v) → Holds (range m k) v
unfolding Rattle.dyadic.specs.Fraction.negated
range_holds m le v h = h
range_holds m ge v h = ap (λ b. b && true) h
range_holds m eq v h = h

pub range_only : (m : Dyadic) (k : Kind) (v : Fraction) → Holds (range m k) v → IsTrue (in_range (exact m) k v)
unfolding Rattle.dyadic.specs.Fraction.negated
range_only m le v h = h
range_only m ge v h = (both_true _ true h).0
range_only m eq v h = h

pub range_kept : (m : Dyadic) → IsOnGrid m → (k : Kind) → IsKept (range m k)
range_kept m g le = (tt, g)
range_kept m g ge = (subst IsRepresentable (sym (nat_abs-neg m.units)) g, tt)
range_kept m g eq = (subst IsRepresentable (sym (nat_abs-neg m.units)) g, g)

-- a power of 2 is a number that is kept
pub two_to_minus_on_grid : (k : ℕ) → IsOnGrid (two_to_minus k)
two_to_minus_on_grid k = record { whole = 1; power = 120 - k; few_bits = lit< tt; in_range = omega arith; value = omega arith }

pub margin_on_grid : (s : Loosenings) → IsOnGrid (margin_of s)
margin_on_grid s = two_to_minus_on_grid s.margin_bits

is-something : (i : Interval) (v : Fraction) → Holds i v → is_nothing i ≡ false
is-something nothing v h = absurd (true≢false (sym h))
is-something (between l u) v h = refl

-- ---- the form

module _ (p : Problem) (g : IsProblem p) where
  -- the enclosure of an atom's term holds its value, which is a fraction
  pub atom_enclosed : (space : Space) (point : List Coordinate) → IsPoint (sorts_of_problem p) point → IsTrue (in_space space point) → (j : ℕ) →
      IsFraction (term_value point (term_of p j)) × Holds (atom_enclosure p space j) (term_value point (term_of p j))
  atom_enclosed space point q i j = enclosure_holds (sorts_of_problem p) space point q i (term_of p j) (terms_are (sorts_of_problem p) p.nodes g.nodes (atom_at p j).0)

  -- the atom holds at a point of the space, so its enclosure does not miss its range
  pub does_not_miss : (m : Dyadic) (space : Space) (point : List Coordinate) → IsPoint (sorts_of_problem p) point → IsTrue (in_space space point) → (j : ℕ) → IsTrue (atom_holds (exact m) point (full_atom p j)) → IsTrue (not (misses p m space j))
  does_not_miss m space point q i j h = let e = atom_enclosed space point q i j in let v : Fraction = term_value point (term_of p j) in
      not_false (misses p m space j) (is-something (met (atom_enclosure p space j) (range m (atom_at p j).1)) v
      (met_holds (atom_enclosure p space j) (range m (atom_at p j).1) v e.0 e.1 (range_holds m (atom_at p j).1 v h)))

  not-in-no : (s : Loosenings) (T : State) (point : List Coordinate) → IsPointOf p s T point → (j : ℕ) → IsTrue (atom_holds (exact (margin_of s)) point (full_atom p j)) → (b : Bool) → in_no T j ≡ b → IsTrue (not b)
  not-in-no s T point i j h true e = absurd (not_both (atom_holds (exact (margin_of s)) point (full_atom p j)) h (i.no j e))
  not-in-no s T point i j h false e = refl

  -- `may` is true at a state with a point that meets the form
  pub may_is : (s : Loosenings) (T : State) (point : List Coordinate) → IsPointOf p s T point → MeetsForm p s point → IsTrue (may p s T)
  may_is s T point i h = rises (λ j. atom_holds (exact (margin_of s)) point (full_atom p j)) (may_atom p s T) (bool_holds point) (domain_allows T.space)
      (λ j k. both_pass (not (in_no T j)) (not (misses p (margin_of s) T.space j)) (not-in-no s T point i j k (in_no T j) refl) (does_not_miss (margin_of s) T.space point i.sorted i.inside j k))
      (left_there T.space point i.inside) p.form h

  -- where `sure` holds over a space, each of its points meets the form
  pub sure_means : (m : Dyadic) (space : Space) (point : List Coordinate) → IsPoint (sorts_of_problem p) point → IsTrue (in_space space point) → IsTrue (sure_within p m space) → MeetsAt p m point
  sure_means m space point q i h = rises (sure_at p m space) (λ j. atom_holds (exact m) point (full_atom p j)) (domain_is space) (bool_holds point)
      (λ j k. range_only m (atom_at p j).1 (term_value point (term_of p j)) (within_holds (atom_enclosure p space j) (range m (atom_at p j).1) (term_value point (term_of p j)) k (atom_enclosed space point q i j).1))
      (is_there space point i) p.form h
