-- A rational point is a real point, with the same truth.
use Rattle.std.proofs.Common.{◌≡◌, ℕ, zero, suc, ◌+◌, ◌*◌, ◌<◌, ◌≤◌, List, [], ◌∷◌, map, None, IsTrue, refl, ap, arith, ℤ, pos, ◌+ℤ◌, ◌*ℤ◌, neg_ℤ, ◌≤ℤ◌, slice_index_or, lt_of_mul-lt-mul_right}
use Rattle.dyadic.specs.Fraction.{Fraction, IsFraction, negated, sum_of, at_most}
use Rattle.dyadic.specs.Point.{Coordinate, at_fraction, at_bool, IsPoint}
use Rattle.dyadic.proofs.Equal.{le_holds, holds_le, through, both_true, both_pass}
use Rattle.dyadic.proofs.Ring.{atom, natural, plus, minus, times, below, read_below}
use Rattle.interval_model.proofs.EndsSums.{negated_mono}
use Rattle.script_model.specs.Script.{Command, Satisfies, sorts_of}
use Rattle.script_model.proofs.Bounds.{negated_is}
use Rattle.poly_graph.specs.Term.{term_value, Kind, le, ge, eq, in_range, Atom, atom_holds}
use Rattle.poly_graph.specs.Problem.{bool_holds, no_atom}
use Rattle.poly_graph.proofs.Forms.{rises}
use Rattle.script_forms.specs.Atoms.{unfolding_fault, script_atoms, script_form}
use Rattle.script_forms.proofs.Numbered.{script_means}
use Rattle.real_points.specs.Real.{part}
use Rattle.real_points.specs.RealPoint.{nth_point, SatisfiesAtReal, as_real}
use Rattle.real_points.proofs.Sizes.{grown}

nth-is : (n : ℕ) (point : List Coordinate) → nth_point n (map as_real point) ≡ point
nth-is n [] = refl
nth-is n (at_fraction q ∷ point) = ap (λ (cs : List Coordinate). at_fraction q ∷ cs) (nth-is n point)
nth-is n (at_bool b ∷ point) = ap (λ (cs : List Coordinate). at_bool b ∷ cs) (nth-is n point)

-- ---- what holds up to 1/(K + 1), where K is large enough, holds

closer : (p q t K : ℕ) → p * suc K ≤ q * suc K + t → t ≤ K → p ≤ q
closer p q t K h l = let k : p * suc K < suc q * suc K = omega (arith, h) in let i : p < suc q = lt_of_mul-lt-mul_right (suc K) k in omega (arith, i)

above-at : (a x : ℤ) (b y K : ℕ) → b * y ≤ K → (a *ℤ pos (y * suc K)) ≤ℤ (((x *ℤ pos (suc K)) +ℤ (pos 1 *ℤ pos y)) *ℤ pos b) → (a *ℤ pos y) ≤ℤ (x *ℤ pos b)
above-at a x b y K l h = below (times (atom a) (natural y)) (times (atom x) (natural b))
    (closer _ _ (b * y) K (omega (arith, read_below (times (atom a) (natural (y * suc K))) (times (plus (times (atom x) (natural (suc K))) (times (natural 1) (natural y))) (natural b)) h)) l)

pub closed_above : (v m : Fraction) (K : ℕ) → v.den * m.den ≤ K → IsTrue (at_most v (sum_of m (part K))) → IsTrue (at_most v m)
unfolding at_most sum_of
closed_above v m K l h = le_holds _ _ (above-at v.num m.num v.den m.den K l (holds_le _ _ h))

below-at : (a x : ℤ) (b y K : ℕ) → b * y ≤ K → (neg_ℤ ((x *ℤ pos (suc K)) +ℤ (pos 1 *ℤ pos y)) *ℤ pos b) ≤ℤ (a *ℤ pos (y * suc K)) → (neg_ℤ x *ℤ pos b) ≤ℤ (a *ℤ pos y)
below-at a x b y K l h = below (times (minus (atom x)) (natural b)) (times (atom a) (natural y))
    (closer _ _ (b * y) K (omega (arith, read_below (times (minus (plus (times (atom x) (natural (suc K))) (times (natural 1) (natural y)))) (natural b)) (times (atom a) (natural (y * suc K))) h)) l)

closed-below : (v m : Fraction) (K : ℕ) → v.den * m.den ≤ K → IsTrue (at_most (negated (sum_of m (part K))) v) → IsTrue (at_most (negated m) v)
unfolding at_most sum_of negated
closed-below v m K l h = le_holds _ _ (below-at v.num m.num v.den m.den K l (holds_le _ _ h))

closed-range : (v m : Fraction) (K : ℕ) → v.den * m.den ≤ K → (kind : Kind) → IsTrue (in_range (sum_of m (part K)) kind v) → IsTrue (in_range m kind v)
closed-range v m K l le h = closed_above v m K l h
closed-range v m K l ge h = closed-below v m K l h
closed-range v m K l eq h = let b = both_true (at_most (negated (sum_of m (part K))) v) (at_most v (sum_of m (part K))) h in
    both_pass (at_most (negated m) v) (at_most v m) (closed-below v m K l b.0) (closed_above v m K l b.1)

looser-above : (v m : Fraction) (k : ℕ) → IsFraction m → IsTrue (at_most v m) → IsTrue (at_most v (sum_of m (part k)))
looser-above v m k f h = through v m (sum_of m (part k)) f h (grown 1 k m)

looser-below : (v m : Fraction) (k : ℕ) → IsFraction m → IsTrue (at_most (negated m) v) → IsTrue (at_most (negated (sum_of m (part k))) v)
looser-below v m k f h = through (negated (sum_of m (part k))) (negated m) v (negated_is m f) (negated_mono m (sum_of m (part k)) (grown 1 k m)) h

looser-range : (v m : Fraction) (k : ℕ) → IsFraction m → (kind : Kind) → IsTrue (in_range m kind v) → IsTrue (in_range (sum_of m (part k)) kind v)
looser-range v m k f le h = looser-above v m k f h
looser-range v m k f ge h = looser-below v m k f h
looser-range v m k f eq h = let b = both_true (at_most (negated m) v) (at_most v m) h in
    both_pass (at_most (negated (sum_of m (part k))) v) (at_most v (sum_of m (part k))) (looser-below v m k f b.0) (looser-above v m k f b.1)

-- so large for all atoms
abbrev needed : List Coordinate → Fraction → List Atom → ℕ
needed point m [] = 0
needed point m (a ∷ atoms) = (term_value point a.0).den * m.den + needed point m atoms

needs : (point : List Coordinate) (m : Fraction) (atoms : List Atom) (j : ℕ) → (term_value point (slice_index_or atoms j no_atom).0).den * m.den ≤ m.den + needed point m atoms
needs point m [] j = omega arith
needs point m (a ∷ atoms) zero = omega arith
needs point m (a ∷ atoms) (suc j) = omega (arith, needs point m atoms j)

module _ (script : List Command) (e : unfolding_fault script ≡ None) (m : Fraction) (f : IsFraction m) (point : List Coordinate) (p : IsPoint (sorts_of script) point) where
  closed : (K : ℕ) → m.den + needed point m (script_atoms script) ≤ K → Satisfies (sum_of m (part K)) point script → Satisfies m point script
  closed K l h = (script_means script e m point p).0
      (rises (λ j. atom_holds (sum_of m (part K)) point (slice_index_or (script_atoms script) j no_atom)) (λ j. atom_holds m point (slice_index_or (script_atoms script) j no_atom)) (bool_holds point) (bool_holds point)
      (λ j. closed-range (term_value point (slice_index_or (script_atoms script) j no_atom).0) m K (omega (arith, needs point m (script_atoms script) j, l)) (slice_index_or (script_atoms script) j no_atom).1)
      (λ i v x. x) (script_form script) ((script_means script e (sum_of m (part K)) point p).1 h))

  looser : (k : ℕ) → Satisfies m point script → Satisfies (sum_of m (part k)) point script
  looser k h = (script_means script e (sum_of m (part k)) point p).0
      (rises (λ j. atom_holds m point (slice_index_or (script_atoms script) j no_atom)) (λ j. atom_holds (sum_of m (part k)) point (slice_index_or (script_atoms script) j no_atom)) (bool_holds point) (bool_holds point)
      (λ j. looser-range (term_value point (slice_index_or (script_atoms script) j no_atom).0) m k f (slice_index_or (script_atoms script) j no_atom).1)
      (λ i v x. x) (script_form script) ((script_means script e m point p).1 h))

  pub rational_is_real : (SatisfiesAtReal m (map as_real point) script → Satisfies m point script) × (Satisfies m point script → SatisfiesAtReal m (map as_real point) script)
  rational_is_real = (
    λ h. let K = m.den + needed point m (script_atoms script) in let t = h K in
        closed K (omega arith) (rw (nth-is t.0 point) at (t.1 t.0 (omega arith))),
    λ h k. (0, λ n l. rw (nth-is n point) (looser k h)),
  )
