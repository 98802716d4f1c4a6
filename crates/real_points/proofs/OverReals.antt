-- What is true over the reals is, at the n-th fractions, true loosened by any 1/(k + 1) for all n from some N on.
use Rattle.std.proofs.Common.{ℕ, suc, ◌+◌, ◌*◌, ◌<◌, ◌≤◌, List, [], ◌∷◌, map, not, ◌^◌, ◌-◌, Option, IsTrue, refl, inl, inr, arith, ℤ, pos, ◌+ℤ◌, ◌*ℤ◌, neg_ℤ, ◌≤ℤ◌, mul-le-mul_right, le_of_mul-le-mul_right, lit<}
use Rattle.std.specs.List.{AllByRecursion}
use native.Mathlib.Nat.{one-le-pow}
use Rattle.std.specs.Prelude.{nat_le}
use Rattle.std.proofs.lemmas.Bool.Decides.{nat_tests}
use Rattle.dyadic.specs.Fraction.{Fraction, zero_fraction, negated, sum_of, at_most}
use Rattle.dyadic.specs.Rounding.{exact}
use Rattle.dyadic.proofs.Equal.{le_holds, holds_le, both_pass}
use Rattle.dyadic.proofs.Ring.{atom, natural, plus, minus, times, below, read_below}
use Rattle.poly_graph.proofs.Bools.{or_first, or_second}
use Rattle.script_model.specs.Meaning.{pair_of, not_above, not_below}
use Rattle.script_model.specs.Script.{Command, claims, Holds as HoldsPair, Satisfies}
use Rattle.script_forms.specs.ProblemOf.{IsProblemOf}
use Rattle.poly_graph.specs.Problem.{Problem, IsProblem}
use Rattle.cover_model.specs.State.{Loosenings, margin_of}
use Rattle.cert_model.specs.Due.{left_open}
use Rattle.cert_model.specs.Accepted.{IsAccepted}
use Rattle.real_points.specs.Laws.{IsBelow}
use Rattle.real_points.specs.Real.{Sequence, part}
use Rattle.real_points.specs.RealPoint.{RealCoordinate, nth_point, SatisfiesAtReal, IsInDeclaredBox}
use Rattle.real_points.specs.RealMeaning.{IsAtMost, IsLess, Relation, is_at_most, is_less, is_at_least, is_greater, is_equal, Statement, yes, senseless, compares, deny, both, differ, choose, Related, Unrelated, Holds, Fails, RealValue, number, statement, chosen, over_reals, coordinate_of, IsTrueStatement, Comparison, SatisfiesBy, SatisfiesOverReals, LooselyRelated, LooselyUnrelated}
use Rattle.real_points.proofs.Truth.{unsat_is_of_reals}
use Rattle.real_points.proofs.AtPoints.{relation_at, pair_at, value_at, claims_at}

abbrev loose : ℕ → Fraction
loose k = sum_of zero_fraction (part k)

-- ---- fractions

above-at : (a c : ℤ) (b d K : ℕ) → (a *ℤ pos (d * K)) ≤ℤ (((c *ℤ pos K) +ℤ (pos 1 *ℤ pos d)) *ℤ pos b) →
    (((a *ℤ pos d) +ℤ (neg_ℤ c *ℤ pos b)) *ℤ pos (1 * K)) ≤ℤ (((pos 0 *ℤ pos K) +ℤ (pos 1 *ℤ pos 1)) *ℤ pos (b * d))
above-at a c b d K h = below (times (plus (times (atom a) (natural d)) (times (minus (atom c)) (natural b))) (natural (1 * K)))
    (times (plus (times (natural 0) (natural K)) (times (natural 1) (natural 1))) (natural (b * d)))
    (omega (arith, read_below (times (atom a) (natural (d * K))) (times (plus (times (atom c) (natural K)) (times (natural 1) (natural d))) (natural b)) h))

-- p <= q + 1/(k + 1) gives p - q <= 1/(k + 1)
is-above : (k : ℕ) (p q : Fraction) → IsTrue (at_most p (sum_of q (part k))) → IsTrue (not_above (loose k) p q)
unfolding at_most sum_of negated
is-above k p q h = le_holds _ _ (above-at p.num q.num p.den q.den (suc k) (holds_le _ _ h))

below-at : (a c : ℤ) (b d K : ℕ) → (c *ℤ pos (b * K)) ≤ℤ (((a *ℤ pos K) +ℤ (pos 1 *ℤ pos b)) *ℤ pos d) →
    (neg_ℤ ((pos 0 *ℤ pos K) +ℤ (pos 1 *ℤ pos 1)) *ℤ pos (b * d)) ≤ℤ (((a *ℤ pos d) +ℤ (neg_ℤ c *ℤ pos b)) *ℤ pos (1 * K))
below-at a c b d K h = below (times (minus (plus (times (natural 0) (natural K)) (times (natural 1) (natural 1)))) (natural (b * d)))
    (times (plus (times (atom a) (natural d)) (times (minus (atom c)) (natural b))) (natural (1 * K)))
    (omega (arith, read_below (times (atom c) (natural (b * K))) (times (plus (times (atom a) (natural K)) (times (natural 1) (natural b))) (natural d)) h))

-- q <= p + 1/(k + 1) gives p - q >= -1/(k + 1)
is-below : (k : ℕ) (p q : Fraction) → IsTrue (at_most q (sum_of p (part k))) → IsTrue (not_below (loose k) p q)
unfolding at_most sum_of negated
is-below k p q h = le_holds _ _ (below-at p.num q.num p.den q.den (suc k) (holds_le _ _ h))

less-at : (a c : ℤ) (b d J K : ℕ) → 0 < J → (((a *ℤ pos J) +ℤ (pos 1 *ℤ pos b)) *ℤ pos d) ≤ℤ (c *ℤ pos (b * J)) → (a *ℤ pos (d * K)) ≤ℤ (((c *ℤ pos K) +ℤ (pos 1 *ℤ pos d)) *ℤ pos b)
less-at a c b d J K g h = below (times (atom a) (natural (d * K))) (times (plus (times (atom c) (natural K)) (times (natural 1) (natural d))) (natural b))
    (le_of_mul-le-mul_right {k = J} (omega (arith, mul-le-mul_right K (read_below (times (plus (times (atom a) (natural J)) (times (natural 1) (natural b))) (natural d)) (times (atom c) (natural (b * J))) h))) g)

-- p + 1/(j + 1) <= q gives p <= q + 1/(k + 1)
is-less : (j k : ℕ) (p q : Fraction) → IsTrue (at_most (sum_of p (part j)) q) → IsTrue (at_most p (sum_of q (part k)))
unfolding at_most sum_of
is-less j k p q h = le_holds _ _ (less-at p.num q.num p.den q.den (suc j) (suc k) (omega arith) (holds_le _ _ h))

-- ---- what is so for all n from some N on

abbrev Eventually : (ℕ → Type 0) → Type 0
Eventually P = (N : ℕ) × ((n : ℕ) → N ≤ n → P n)

at-most-later : (k : ℕ) (a b : Sequence) → IsAtMost a b → Eventually (λ n. IsTrue (at_most (a n) (sum_of (b n) (part k))))
at-most-later k a b h = h k

less-later : (k : ℕ) (a b : Sequence) → IsLess a b → Eventually (λ n. IsTrue (at_most (a n) (sum_of (b n) (part k))))
less-later k a b h = (h.1, λ n l. is-less h.0 k (a n) (b n) (h.2 n l))

module _ (k : ℕ) where
  above-later : (a b : Sequence) → Eventually (λ n. IsTrue (at_most (a n) (sum_of (b n) (part k)))) → Eventually (λ n. IsTrue (not_above (loose k) (a n) (b n)))
  above-later a b h = (h.0, λ n l. is-above k (a n) (b n) (h.1 n l))

  below-later : (a b : Sequence) → Eventually (λ n. IsTrue (at_most (b n) (sum_of (a n) (part k)))) → Eventually (λ n. IsTrue (not_below (loose k) (a n) (b n)))
  below-later a b h = (h.0, λ n l. is-below k (a n) (b n) (h.1 n l))

  related : (r : Relation) (a b : Sequence) → Related r a b → Eventually (λ n. IsTrue (relation_at (loose k) r (a n) (b n)).pos)
  related is_at_most a b h = above-later a b (at-most-later k a b h)
  related is_less a b h = above-later a b (less-later k a b h)
  related is_at_least a b h = below-later a b (at-most-later k b a h)
  related is_greater a b h = below-later a b (less-later k b a h)
  related is_equal a b h =
      let f = below-later a b (at-most-later k b a h.1) in let g = above-later a b (at-most-later k a b h.0) in
      (f.0 + g.0, λ n l. both_pass _ _ (f.1 n (omega (arith, l))) (g.1 n (omega (arith, l))))

  unrelated : (r : Relation) (a b : Sequence) → Unrelated r a b → Eventually (λ n. IsTrue (relation_at (loose k) r (a n) (b n)).neg)
  unrelated is_at_most a b h = below-later a b (less-later k b a h)
  unrelated is_less a b h = below-later a b (at-most-later k b a h)
  unrelated is_at_least a b h = above-later a b (less-later k a b h)
  unrelated is_greater a b h = above-later a b (at-most-later k a b h)
  unrelated is_equal a b h = (0, λ n l. refl)

-- ---- statements

-- where comparisons that R or U says are so at the n-th fractions, loosened by d, for all n from some N on
module _ (d : Fraction) (R U : Comparison) (yes-later : (r : Relation) (a b : Sequence) → R r a b → Eventually (λ n. IsTrue (relation_at d r (a n) (b n)).pos))
    (no-later : (r : Relation) (a b : Sequence) → U r a b → Eventually (λ n. IsTrue (relation_at d r (a n) (b n)).neg)) where
  mutual
    holds : (s : Statement) → Holds R U s → Eventually (λ n. IsTrue (pair_at d n s).pos)
    holds yes h = (0, λ n l. refl)
    holds senseless h = elim h [ ]
    holds (compares r a b) h = yes-later r a b h
    holds (deny s) h = fails s h
    holds (both s t) h = let f = holds s h.0 in let g = holds t h.1 in (f.0 + g.0, λ n l. both_pass _ _ (f.1 n (omega (arith, l))) (g.1 n (omega (arith, l))))
    holds (differ s t) h = elim h [
      | inl x ↦ let f = holds s x.0 in let g = fails t x.1 in (f.0 + g.0, λ n l. or_first _ _ (both_pass _ _ (f.1 n (omega (arith, l))) (g.1 n (omega (arith, l)))))
      | inr x ↦ let f = fails s x.0 in let g = holds t x.1 in (f.0 + g.0, λ n l. or_second _ _ (both_pass _ _ (f.1 n (omega (arith, l))) (g.1 n (omega (arith, l)))))
    ]
    holds (choose c s t) h = elim h [
      | inl x ↦ let f = holds c x.0 in let g = holds s x.1 in (f.0 + g.0, λ n l. or_first _ _ (both_pass _ _ (f.1 n (omega (arith, l))) (g.1 n (omega (arith, l)))))
      | inr x ↦ let f = fails c x.0 in let g = holds t x.1 in (f.0 + g.0, λ n l. or_second _ _ (both_pass _ _ (f.1 n (omega (arith, l))) (g.1 n (omega (arith, l)))))
    ]

    fails : (s : Statement) → Fails R U s → Eventually (λ n. IsTrue (pair_at d n s).neg)
    fails yes h = elim h [ ]
    fails senseless h = elim h [ ]
    fails (compares r a b) h = no-later r a b h
    fails (deny s) h = holds s h
    fails (both s t) h = elim h [
      | inl x ↦ let f = fails s x in (f.0, λ n l. or_first _ _ (f.1 n l))
      | inr x ↦ let f = fails t x in (f.0, λ n l. or_second _ _ (f.1 n l))
    ]
    fails (differ s t) h = elim h [
      | inl x ↦ let f = holds s x.0 in let g = holds t x.1 in (f.0 + g.0, λ n l. or_first _ _ (both_pass _ _ (f.1 n (omega (arith, l))) (g.1 n (omega (arith, l)))))
      | inr x ↦ let f = fails s x.0 in let g = fails t x.1 in (f.0 + g.0, λ n l. or_second _ _ (both_pass _ _ (f.1 n (omega (arith, l))) (g.1 n (omega (arith, l)))))
    ]
    fails (choose c s t) h = elim h [
      | inl x ↦ let f = holds c x.0 in let g = fails s x.1 in (f.0 + g.0, λ n l. or_first _ _ (both_pass _ _ (f.1 n (omega (arith, l))) (g.1 n (omega (arith, l)))))
      | inr x ↦ let f = fails c x.0 in let g = fails t x.1 in (f.0 + g.0, λ n l. or_second _ _ (both_pass _ _ (f.1 n (omega (arith, l))) (g.1 n (omega (arith, l)))))
    ]

  -- ---- scripts

  one-holds : (v : RealValue) → IsTrueStatement R U v → Eventually (λ n. HoldsPair (pair_of (value_at d n v)))
  one-holds (statement s) h = holds s h
  one-holds (number a) h = elim h [ ]
  one-holds (chosen c v w) h = elim h [ ]

  all-hold : (vs : List RealValue) → AllByRecursion (IsTrueStatement R U) vs → Eventually (λ n. AllByRecursion HoldsPair (map pair_of (map (value_at d n) vs)))
  all-hold [] h = (0, λ n l. tt)
  all-hold (v ∷ vs) h = let f = one-holds v h.0 in let g = all-hold vs h.1 in (f.0 + g.0, λ n l. (f.1 n (omega (arith, l)), g.1 n (omega (arith, l))))

  satisfied : (point : List RealCoordinate) (script : List Command) → SatisfiesBy R U point script → Eventually (λ n. Satisfies d (nth_point n point) script)
  satisfied point script h =
      let f = all-hold (claims over_reals [] (map coordinate_of point) script) h in
      (f.0, λ n l. rw (← claims_at d n point script) (f.1 n l))

pub over_reals_is_loosened : (point : List RealCoordinate) (script : List Command) → SatisfiesOverReals point script → SatisfiesAtReal zero_fraction point script
over_reals_is_loosened point script h k = satisfied (loose k) Related Unrelated (related k) (unrelated k) point script h

-- ---- loosened by m

module _ (m : Fraction) (k : ℕ) where
  loosely-related : (r : Relation) (a b : Sequence) → LooselyRelated m r a b → Eventually (λ n. IsTrue (relation_at (sum_of m (part k)) r (a n) (b n)).pos)
  loosely-related is_at_most a b h = h k
  loosely-related is_less a b h = h k
  loosely-related is_at_least a b h = h k
  loosely-related is_greater a b h = h k
  loosely-related is_equal a b h = let f = h.0 k in let g = h.1 k in (f.0 + g.0, λ n l. both_pass _ _ (f.1 n (omega (arith, l))) (g.1 n (omega (arith, l))))

  loosely-unrelated : (r : Relation) (a b : Sequence) → LooselyUnrelated m r a b → Eventually (λ n. IsTrue (relation_at (sum_of m (part k)) r (a n) (b n)).neg)
  loosely-unrelated is_at_most a b h = h k
  loosely-unrelated is_less a b h = h k
  loosely-unrelated is_at_least a b h = h k
  loosely-unrelated is_greater a b h = h k
  loosely-unrelated is_equal a b h = (0, λ n l. refl)

pub loosely_is_at_the_limit : (m : Fraction) (point : List RealCoordinate) (script : List Command) → SatisfiesBy (LooselyRelated m) (LooselyUnrelated m) point script → SatisfiesAtReal m point script
loosely_is_at_the_limit m point script h k = satisfied (sum_of m (part k)) (LooselyRelated m) (LooselyUnrelated m) (loosely-related m k) (loosely-unrelated m k) point script h

positive-at : (t : ℕ) → 1 ≤ t → IsTrue (not (nat_le (t * 1) 0))
positive-at t h = grind (arith, nat_tests)

margin-is-positive : (s : Loosenings) → IsBelow zero_fraction (exact (margin_of s))
unfolding at_most
margin-is-positive s = positive-at (2 ^ (120 - s.margin_bits)) (one-le-pow (120 - s.margin_bits) 2 (omega arith))

pub unsat_is_exact_over_reals : (bound : Option ℕ) (script : List Command) (p : Problem) → IsProblem p → IsProblemOf bound script p → (bytes : List ℕ) (s : Loosenings) →
    IsAccepted p bound bytes s (left_open []) → (point : List RealCoordinate) → IsInDeclaredBox bound script point → SatisfiesOverReals point script → ⊥
unsat_is_exact_over_reals bound script p g t bytes s e point b h =
    unsat_is_of_reals bound script p g t bytes s e zero_fraction (lit< tt) (margin-is-positive s) point b (over_reals_is_loosened point script h)
