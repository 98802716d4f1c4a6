-- What polynomials enclose, one monomial after the other.
use Rattle.std.proofs.Common.{◌≡◌, ℕ, arith, List, [], ◌∷◌, Bool, true, false, cond, refl, ap, sym, subst, nat_le}
use Rattle.std.proofs.lemmas.Bool.Decides.{nat_tests}
use Rattle.std.specs.Cmp.Lexicographic.{slice_cmp}
use Rattle.std.specs.Ordering.{nat_cmp, ordering_then}
use Rattle.std.specs.declared.cmp.Ordering.{Ordering}
use Rattle.std.specs.declared.cmp.Ordering.TheVariants.{Less, Equal, Greater}
use Rattle.dyadic.specs.Fraction.{at_most}
use Rattle.dyadic.specs.Point.{Sort, real_sort}
use Rattle.poly_graph.specs.Problem.{HasSort}
use Rattle.interval_model.specs.Interval.{Interval, interval_product}
use Rattle.interval_model.proofs.Holds.{Holds, sum_holds, product_holds, negated_holds}
use Rattle.square_model.specs.Polynomial.{Monomial, Polynomial, one_alone, with_axis, together, placed, given, constant_polynomial, polynomial_negated, polynomial_sum, multiple_given, product_given, polynomial_product}
use Rattle.square_model.specs.Encloses.{AreReal}
use Rattle.square_model.proofs.Numbers.{Number, nought, one, plus_of, times_of, opposite_of, less, ◌≃◌, same_number, turned, then, plus_same, times_same, opposite_same, less_same, nought_left, nought_right, taken_back, taken_after, taken_joined, passed_on, multiple_passed_on, product_passed_on, times_nought, nought_times, one_times, opposite_taken, opposite_of_nought, swapped, regrouped, constant_taken, axis_taken}

-- monomials that compare as equal are equal
same-axis : (i j : ℕ) → nat_cmp i j ≡ Equal → i ≡ j
same-axis i j e = grind (arith, nat_tests, e)

pub same_monomial : (m n : Monomial) → slice_cmp nat_cmp m n ≡ Equal → m ≡ n
same_monomial [] [] e = refl
same_monomial [] (j ∷ n) e = cc
same_monomial (i ∷ m) [] e = cc
same_monomial (i ∷ m) (j ∷ n) e = by (nat_cmp i j) refl e (same_monomial m n)
  where
    by : (o : Ordering) → nat_cmp i j ≡ o → ordering_then o (slice_cmp nat_cmp m n) ≡ Equal → (slice_cmp nat_cmp m n ≡ Equal → m ≡ n) → (i ∷ m) ≡ (j ∷ n)
    by Less f e rest = cc
    by Equal f e rest = let a = same-axis i j f in let b = rest e in λ k. a k ∷ b k
    by Greater f e rest = cc

module _ (sorts : List Sort) (d : ℕ → Number) where
  abbrev pub monomial_number : Monomial → Number
  monomial_number [] = one
  monomial_number (i ∷ m) = times_of (d i) (monomial_number m)

  -- v is the sum of the monomials, each times some number in its coefficient
  abbrev pub Enc : Polynomial → Number → Type 0
  Enc [] v = v ≃ nought
  Enc ((m, i) ∷ p) v = AreReal sorts m × (a : Number) × Holds i a.value × Enc p (less v (times_of a (monomial_number m)))

  pub same_encloses : (p : Polynomial) (v w : Number) → v ≃ w → Enc p v → Enc p w
  same_encloses [] v w e h = then w v nought (turned v w e) h
  same_encloses ((m, i) ∷ p) v w e h = let x : Number = times_of h.1 (monomial_number m) in
      (h.0, h.1, h.2, same_encloses p (less v x) (less w x) (less_same v w x x e (same_number x)) h.3)

  pub given_encloses : (m : Monomial) (i : Interval) (a : Number) → AreReal sorts m → Holds i a.value → (p : Polynomial) (v : Number) → Enc p v → Enc (given m i p) (plus_of v (times_of a (monomial_number m)))
  given_encloses m i a r h [] v e = let x : Number = times_of a (monomial_number m) in (r, a, h, then (less (plus_of v x) x) v nought (taken_back v x) e)
  given_encloses m i a r h ((n, j) ∷ p) v e = by (slice_cmp nat_cmp m n) refl (given_encloses m i a r h p (less v (times_of e.1 (monomial_number n))) e.3)
    where
      by : (o : Ordering) → slice_cmp nat_cmp m n ≡ o → Enc (given m i p) (plus_of (less v (times_of e.1 (monomial_number n))) (times_of a (monomial_number m))) →
          Enc (placed o m i n j p (given m i p)) (plus_of v (times_of a (monomial_number m)))
      by Less f later = let x : Number = times_of a (monomial_number m) in
          (r, a, h, same_encloses ((n, j) ∷ p) v (less (plus_of v x) x) (turned (less (plus_of v x) x) v (taken_back v x)) e)
      by Equal f later = let b : Number = e.1 in let y : Number = monomial_number n in (
        e.0,
        plus_of b a,
        sum_holds j i b.value a.value e.2 h,
        subst (λ (t : Number). Enc p (less (plus_of v (times_of a t)) (times_of (plus_of b a) y))) (ap monomial_number (sym (same_monomial m n f)))
            (same_encloses p (less v (times_of b y)) (less (plus_of v (times_of a y)) (times_of (plus_of b a) y)) (turned (less (plus_of v (times_of a y)) (times_of (plus_of b a) y)) (less v (times_of b y)) (taken_joined a b y v)) e.3),
      )
      by Greater f later = let x : Number = times_of a (monomial_number m) in let y : Number = times_of e.1 (monomial_number n) in
          (e.0, e.1, e.2, same_encloses (given m i p) (plus_of (less v y) x) (less (plus_of v x) y) (turned (less (plus_of v x) y) (plus_of (less v y) x) (taken_after v x y)) later)

  pub sum_encloses : (p q : Polynomial) (v w : Number) → Enc p v → Enc q w → Enc (polynomial_sum p q) (plus_of v w)
  sum_encloses p [] v w h k = same_encloses p v (plus_of v w) (turned (plus_of v w) v (then (plus_of v w) (plus_of v nought) v (plus_same v v w nought (same_number v) k) (nought_right v))) h
  sum_encloses p ((m, i) ∷ q) v w h k = let x : Number = times_of k.1 (monomial_number m) in
      same_encloses (polynomial_sum (given m i p) q) (plus_of (plus_of v x) (less w x)) (plus_of v w) (passed_on v w x)
      (sum_encloses (given m i p) q (plus_of v x) (less w x) (given_encloses m i k.1 k.0 k.2 p v h) k.3)

  -- ---- products

  with-axis-value : (i : ℕ) (m : Monomial) → monomial_number (with_axis i m) ≃ times_of (d i) (monomial_number m)
  with-axis-value i [] = same_number (times_of (d i) one)
  with-axis-value i (j ∷ m) = by (nat_le i j) (with-axis-value i m)
    where
      by : (t : Bool) → monomial_number (with_axis i m) ≃ times_of (d i) (monomial_number m) → monomial_number (cond t (i ∷ j ∷ m) (j ∷ with_axis i m)) ≃ times_of (d i) (times_of (d j) (monomial_number m))
      by true later = same_number (times_of (d i) (times_of (d j) (monomial_number m)))
      by false later = let x : Number = monomial_number m in
          then (times_of (d j) (monomial_number (with_axis i m))) (times_of (d j) (times_of (d i) x)) (times_of (d i) (times_of (d j) x))
          (times_same (d j) (d j) (monomial_number (with_axis i m)) (times_of (d i) x) (same_number (d j)) later) (swapped x (d j) (d i))

  pub together_value : (m n : Monomial) → monomial_number (together m n) ≃ times_of (monomial_number m) (monomial_number n)
  together_value [] n = turned (times_of one (monomial_number n)) (monomial_number n) (one_times (monomial_number n))
  together_value (i ∷ m) n = let x : Number = monomial_number m in let y : Number = monomial_number n in let z : Number = monomial_number (together m n) in
      then (monomial_number (with_axis i (together m n))) (times_of (d i) z) (times_of (times_of (d i) x) y) (with-axis-value i (together m n))
      (then (times_of (d i) z) (times_of (d i) (times_of x y)) (times_of (times_of (d i) x) y) (times_same (d i) (d i) z (times_of x y) (same_number (d i)) (together_value m n)) (regrouped y (d i) x))

  with-axis-real : (i : ℕ) (m : Monomial) → HasSort real_sort sorts i → AreReal sorts m → AreReal sorts (with_axis i m)
  with-axis-real i [] h k = (h, k)
  with-axis-real i (j ∷ m) h k = by (nat_le i j) (with-axis-real i m h k.1)
    where
      by : (t : Bool) → AreReal sorts (with_axis i m) → AreReal sorts (cond t (i ∷ j ∷ m) (j ∷ with_axis i m))
      by true later = (h, k)
      by false later = (k.0, later)

  pub together_real : (m n : Monomial) → AreReal sorts m → AreReal sorts n → AreReal sorts (together m n)
  together_real [] n h k = k
  together_real (i ∷ m) n h k = with-axis-real i (together m n) h.0 (together_real m n h.1 k)

  pub multiple_encloses : (m : Monomial) (i : Interval) (x : Number) → AreReal sorts m → Holds i x.value → (q r : Polynomial) (w u : Number) → Enc q w → Enc r u → Enc (multiple_given m i q r) (plus_of u (times_of (times_of x (monomial_number m)) w))
  multiple_encloses m i x g h [] r w u e k = let y : Number = times_of x (monomial_number m) in let z : Number = plus_of u (times_of y w) in
      same_encloses r u z (turned z u (then z (plus_of u nought) u (plus_same u u (times_of y w) nought (same_number u)
      (then (times_of y w) (times_of y nought) nought (times_same y y w nought (same_number y) e) (times_nought y))) (nought_right u))) k
  multiple_encloses m i x g h ((n, j) ∷ q) r w u e k =
      let M : Number = monomial_number m in let N : Number = monomial_number n in let K : Number = monomial_number (together m n) in let y : Number = e.1 in
      let xy : Number = times_of x y in let later : Number = less w (times_of y N) in let s : Number = times_of (times_of x M) later in
      let next : Polynomial = given (together m n) (interval_product i j) r in
      same_encloses (multiple_given m i q next) (plus_of (plus_of u (times_of xy K)) s) (plus_of u (times_of (times_of x M) w))
      (then (plus_of (plus_of u (times_of xy K)) s) (plus_of (plus_of u (times_of xy (times_of M N))) s) (plus_of u (times_of (times_of x M) w))
      (plus_same (plus_of u (times_of xy K)) (plus_of u (times_of xy (times_of M N))) s s
      (plus_same u u (times_of xy K) (times_of xy (times_of M N)) (same_number u) (times_same xy xy K (times_of M N) (same_number xy) (together_value m n))) (same_number s))
      (multiple_passed_on M N u w x y))
      (multiple_encloses m i x g h q next later (plus_of u (times_of xy K)) e.3
      (given_encloses (together m n) (interval_product i j) xy (together_real m n g e.0) (product_holds i j x.value y.value x.good y.good h e.2) r u k))

  pub product_given_encloses : (p q r : Polynomial) (v w u : Number) → Enc p v → Enc q w → Enc r u → Enc (product_given p q r) (plus_of u (times_of v w))
  product_given_encloses [] q r v w u e f k = let z : Number = plus_of u (times_of v w) in
      same_encloses r u z (turned z u (then z (plus_of u nought) u (plus_same u u (times_of v w) nought (same_number u)
      (then (times_of v w) (times_of nought w) nought (times_same v nought w w e (same_number w)) (nought_times w))) (nought_right u))) k
  product_given_encloses ((m, i) ∷ p) q r v w u e f k = let M : Number = monomial_number m in let x : Number = e.1 in
      same_encloses (product_given p q (multiple_given m i q r)) (plus_of (plus_of u (times_of (times_of x M) w)) (times_of (less v (times_of x M)) w)) (plus_of u (times_of v w)) (product_passed_on M u v w x)
      (product_given_encloses p q (multiple_given m i q r) (less v (times_of x M)) w (plus_of u (times_of (times_of x M) w)) e.3 f (multiple_encloses m i x e.0 e.2 q r w u f k))

  pub product_encloses : (p q : Polynomial) (v w : Number) → Enc p v → Enc q w → Enc (polynomial_product p q) (times_of v w)
  product_encloses p q v w e f = same_encloses (polynomial_product p q) (plus_of nought (times_of v w)) (times_of v w) (nought_left (times_of v w)) (product_given_encloses p q [] v w nought e f (same_number nought))

  -- ---- opposites, numbers and axes

  pub negated_encloses : (p : Polynomial) (v : Number) → Enc p v → Enc (polynomial_negated p) (opposite_of v)
  negated_encloses [] v e = then (opposite_of v) (opposite_of nought) nought (opposite_same v nought e) opposite_of_nought
  negated_encloses ((m, i) ∷ p) v e = let M : Number = monomial_number m in let x : Number = times_of e.1 M in let y : Number = times_of (opposite_of e.1) M in (
    e.0,
    opposite_of e.1,
    negated_holds i e.1.value e.2,
    same_encloses (polynomial_negated p) (opposite_of (less v x)) (less (opposite_of v) y) (turned (less (opposite_of v) y) (opposite_of (less v x)) (opposite_taken e.1 M v)) (negated_encloses p (less v x) e.3),
  )

  pub constant_encloses : (i : Interval) (v : Number) → Holds i v.value → Enc (constant_polynomial i) v
  constant_encloses i v h = (tt, v, h, constant_taken v)

  one-holds : Holds one_alone one.value
  unfolding at_most
  one-holds = refl

  -- an axis at x, where its centre is at c
  pub axis_encloses : (axis : ℕ) (c x : Number) (i : Interval) → HasSort real_sort sorts axis → Holds i c.value → d axis ≡ less x c → Enc (([], i) ∷ (axis ∷ [], one_alone) ∷ []) x
  axis_encloses axis c x i r h e = (
    tt,
    c,
    h,
    (
      (r, tt),
      one,
      one-holds,
      subst (λ (t : Number). less (less x (times_of c one)) (times_of one (times_of t one)) ≃ nought) (sym e) (axis_taken c x),
    ),
  )
