-- A script that holds at one point holds at each point that is close to it, loosened by a little more.
use Rattle.std.proofs.Common.{◌≡◌, ℕ, zero, suc, ◌*◌, ◌≤◌, List, [], ◌∷◌, Bool, IsTrue, inl, inr, arith, slice_index_or, None, ℤ, pos, ◌+ℤ◌, ◌*ℤ◌, neg_ℤ, ◌≤ℤ◌, lit<}
use Rattle.std.specs.List.{AllByRecursion}
use Rattle.dyadic.specs.Fraction.{Fraction, IsFraction, negated, sum_of, at_most}
use Rattle.dyadic.specs.Point.{Sort, real_sort, bool_sort, Coordinate, at_fraction, at_bool, IsPoint}
use Rattle.dyadic.proofs.Equal.{le_holds, through, total, both_true, both_pass}
use Rattle.dyadic.proofs.Ring.{atom, natural, plus, minus, times, below}
use Rattle.interval_model.proofs.EndsSums.{sum_mono, negated_mono}
use Rattle.script_model.proofs.Bounds.{sum_is, negated_is}
use Rattle.poly_graph.specs.Term.{term_value, Kind, le, ge, eq, in_range, Atom, atom_holds}
use Rattle.poly_graph.specs.Problem.{IsTerm, bool_holds, no_atom}
use Rattle.poly_graph.proofs.Forms.{rises}
use Rattle.script_model.specs.Script.{Command, Satisfies, sorts_of}
use Rattle.script_forms.specs.Atoms.{unfolding_fault, script_atoms, script_form}
use Rattle.script_forms.proofs.Numbered.{script_means}
use Rattle.script_forms.proofs.Good.{script_good}
use Rattle.real_points.proofs.Sizes.{IsClose, ratio, close_above, close_below, close_more}
use Rattle.real_points.proofs.Terms.{rate_of, rate_of_all, AreClose, values}

pub own : (q : Fraction) → IsTrue (at_most q q)
own q = elim (total q q) [ inl h ↦ h | inr h ↦ h ]

negated-sum-at : (a c : ℤ) (b d : ℕ) → (neg_ℤ ((a *ℤ pos d) +ℤ (c *ℤ pos b)) *ℤ pos (b * d)) ≤ℤ (((neg_ℤ a *ℤ pos d) +ℤ (neg_ℤ c *ℤ pos b)) *ℤ pos (b * d))
negated-sum-at a c b d = below (times (minus (plus (times (atom a) (natural d)) (times (atom c) (natural b)))) (natural (b * d)))
    (times (plus (times (minus (atom a)) (natural d)) (times (minus (atom c)) (natural b))) (natural (b * d))) (omega arith)

negated-sum : (p q : Fraction) → IsTrue (at_most (negated (sum_of p q)) (sum_of (negated p) (negated q)))
unfolding at_most negated sum_of
negated-sum p q = le_holds _ _ (negated-sum-at p.num q.num p.den q.den)

pub ratio_is : (k n : ℕ) → IsFraction (ratio k n)
ratio_is k n = omega arith

module _ (k n : ℕ) (m m' : Fraction) (f : IsFraction m) (step : IsTrue (at_most (sum_of m (ratio k n)) m')) where
  above-moves : (v w : Fraction) → IsFraction v → IsClose k n v w → IsTrue (at_most v m) → IsTrue (at_most w m')
  above-moves v w g c h =
      let s = ratio k n in
      through w (sum_of v s) m' (sum_is v s g (ratio_is k n)) (close_above k n v w c)
      (through (sum_of v s) (sum_of m s) m' (sum_is m s f (ratio_is k n)) (sum_mono v s m s h (own s)) step)

  below-moves : (v w : Fraction) → IsFraction v → IsClose k n v w → IsTrue (at_most (negated m) v) → IsTrue (at_most (negated m') w)
  below-moves v w g c h =
      let s = ratio k n in
      through (negated m') (negated (sum_of m s)) w (negated_is (sum_of m s) (sum_is m s f (ratio_is k n))) (negated_mono (sum_of m s) m' step)
      (through (negated (sum_of m s)) (sum_of (negated m) (negated s)) w (sum_is (negated m) (negated s) (negated_is m f) (negated_is s (ratio_is k n))) (negated-sum m s)
      (through (sum_of (negated m) (negated s)) (sum_of v (negated s)) w (sum_is v (negated s) g (negated_is s (ratio_is k n))) (sum_mono (negated m) (negated s) v (negated s) h (own (negated s))) (close_below k n v w c)))

  range-moves : (kind : Kind) (v w : Fraction) → IsFraction v → IsClose k n v w → IsTrue (in_range m kind v) → IsTrue (in_range m' kind w)
  range-moves le v w g c h = above-moves v w g c h
  range-moves ge v w g c h = below-moves v w g c h
  range-moves eq v w g c h = let b = both_true (at_most (negated m) v) (at_most v m) h in both_pass (at_most (negated m') w) (at_most w m') (below-moves v w g c b.0) (above-moves v w g c b.1)

-- ---- the atoms of a script

pub atom_is_term : (sorts : List Sort) (atoms : List Atom) (j : ℕ) → AllByRecursion (λ (a : Atom). IsTerm sorts a.0) atoms → IsTerm sorts (slice_index_or atoms j no_atom).0
atom_is_term sorts [] j h = lit< tt
atom_is_term sorts (a ∷ atoms) zero h = h.0
atom_is_term sorts (a ∷ atoms) (suc j) h = atom_is_term sorts atoms j h.1

rate-below : (b c : ℕ) (atoms : List Atom) (j : ℕ) → rate_of b c (slice_index_or atoms j no_atom).0 ≤ rate_of_all b c atoms
rate-below b c [] j = omega arith
rate-below b c (a ∷ atoms) zero = omega arith
rate-below b c (a ∷ atoms) (suc j) = omega (arith, rate-below b c atoms j)

bools-same : (b c n : ℕ) (sorts : List Sort) (ps qs : List Coordinate) → AreClose b c n sorts ps qs → (axis : ℕ) (v : Bool) → IsTrue (bool_holds ps axis v) → IsTrue (bool_holds qs axis v)
bools-same b c n [] [] [] h axis v k = k
bools-same b c n (real_sort ∷ sorts) (at_fraction p ∷ ps) (at_fraction q ∷ qs) h zero v k = k
bools-same b c n (real_sort ∷ sorts) (at_fraction p ∷ ps) (at_fraction q ∷ qs) h (suc axis) v k = bools-same b c n sorts ps qs h.1 axis v k
bools-same b c n (bool_sort ∷ sorts) (at_bool x ∷ ps) (at_bool y ∷ qs) h zero v k = rw (← h.0) k
bools-same b c n (bool_sort ∷ sorts) (at_bool x ∷ ps) (at_bool y ∷ qs) h (suc axis) v k = bools-same b c n sorts ps qs h.1 axis v k
bools-same b c n sorts ps qs h axis v k = elim h [ ]

pub points_left : (b c n : ℕ) (sorts : List Sort) (ps qs : List Coordinate) → AreClose b c n sorts ps qs → IsPoint sorts ps × IsPoint sorts qs
points_left b c n [] [] [] h = (tt, tt)
points_left b c n (real_sort ∷ sorts) (at_fraction p ∷ ps) (at_fraction q ∷ qs) h = let k = points_left b c n sorts ps qs h.1 in ((h.0.0, k.0), (h.0.1, k.1))
points_left b c n (bool_sort ∷ sorts) (at_bool x ∷ ps) (at_bool y ∷ qs) h = points_left b c n sorts ps qs h.1
points_left b c n sorts ps qs h = elim h [ ]

module _ (script : List Command) (e : unfolding_fault script ≡ None) (b c n : ℕ) (ps qs : List Coordinate) (near : AreClose b c n (sorts_of script) ps qs) (m m' : Fraction) (f : IsFraction m)
    (step : IsTrue (at_most (sum_of m (ratio (rate_of_all b c (script_atoms script)) n)) m')) where
  atom-moves : (j : ℕ) → IsTrue (atom_holds m ps (slice_index_or (script_atoms script) j no_atom)) → IsTrue (atom_holds m' qs (slice_index_or (script_atoms script) j no_atom))
  atom-moves j h =
      let a = slice_index_or (script_atoms script) j no_atom in
      let v = values b c n (sorts_of script) ps qs near a.0 (atom_is_term (sorts_of script) (script_atoms script) j (script_good script)) in
      range-moves (rate_of_all b c (script_atoms script)) n m m' f step a.1 (term_value ps a.0) (term_value qs a.0) v.is
      (close_more (rate_of b c a.0) (rate_of_all b c (script_atoms script)) n (term_value ps a.0) (term_value qs a.0) (rate-below b c (script_atoms script) j) v.close) h

  -- at a close point the script holds, loosened by so much more
  pub script_moves : Satisfies m ps script → Satisfies m' qs script
  script_moves h =
      let i = points_left b c n (sorts_of script) ps qs near in
      (script_means script e m' qs i.1).0
      (rises (λ j. atom_holds m ps (slice_index_or (script_atoms script) j no_atom)) (λ j. atom_holds m' qs (slice_index_or (script_atoms script) j no_atom)) (bool_holds ps) (bool_holds qs)
      atom-moves (bools-same b c n (sorts_of script) ps qs near) (script_form script) ((script_means script e m ps i.0).1 h))
