-- What a smaller square leaves to its operand lies within what a greater one leaves.
use Rattle.std.proofs.Common.{ℕ, ◌^◌, ◌≤◌, IsTrue, refl, sym, subst, arith, true≢false, ℤ, pos, negsuc, ◌≤ℤ◌, lit<}
use Rattle.std.proofs.lemmas.Int.{ints}
use Rattle.dyadic.specs.Fraction.{at_most, product_of}
use Rattle.dyadic.specs.Rounding.{Dyadic, exact, IsOnGrid, Ext, below_all, finite, above_all, end_of, ext_at_most, not_negative, root_down, root_up}
use Rattle.interval_model.specs.Interval.{Interval, nothing, between, met, within, inverse_square}
use Rattle.dyadic.specs.End.{negated_ext}
use Rattle.dyadic.proofs.Rounds.{IsExtOnGrid, exact_from, exact_read}
use Rattle.dyadic.proofs.RoundsRoots.{root_down_is, root_up_is}
use Rattle.dyadic.proofs.Equal.{both_true, both_pass, through}
use Rattle.interval_model.proofs.EndsProducts.{below_top}
use Rattle.interval_model.proofs.InversesSquares.{IsKept, size_on_grid, low_root, high_root}
use Rattle.interval_model.proofs.Isotone.{IsProper, IsLow, IsHigh, negated_ext_falls, met_isotone, hull_isotone}

abbrev size : ℕ → Dyadic
size n = record { units = pos n }

down-found : (m n : ℕ) → m ≤ n → m ≤ 2 ^ 242 → n ≤ 2 ^ 242 → IsTrue (ext_at_most (root_down (size m)) (root_down (size n)))
down-found m n h i j =
    let r = root_down_is m i in let s = root_down_is n j in
    subst (λ (e : Ext). IsTrue (ext_at_most e (root_down (size n)))) (sym r.1)
    (subst (λ (e : Ext). IsTrue (ext_at_most (finite r.0) e)) (sym s.1)
    (s.2.greatest r.0 r.2.on_grid (through (product_of (exact r.0) (exact r.0)) (exact (size m)) (exact (size n)) (lit< tt) r.2.below (exact_from (size m) (size n) (omega (arith, ints, h))))))

up-found : (m n : ℕ) → m ≤ n → m ≤ 2 ^ 242 → n ≤ 2 ^ 242 → IsTrue (ext_at_most (root_up (size m)) (root_up (size n)))
up-found m n h i j =
    let r = root_up_is m i in let s = root_up_is n j in
    subst (λ (e : Ext). IsTrue (ext_at_most e (root_up (size n)))) (sym r.1)
    (subst (λ (e : Ext). IsTrue (ext_at_most (finite r.0) e)) (sym s.1)
    (r.2.least s.0 s.2.on_grid s.2.plus (through (exact (size m)) (exact (size n)) (product_of (exact s.0) (exact s.0)) (lit< tt) (exact_from (size m) (size n) (omega (arith, ints, h))) s.2.above)))

minus-order : (m n : ℕ) → pos m ≤ℤ pos n → m ≤ n
minus-order m n h = omega (arith, ints, h)

no-minus : (m n : ℕ) → pos m ≤ℤ negsuc n → ⊥
no-minus m n h = omega (arith, ints, h)

pub root_down_rises : (d e : Dyadic) → IsOnGrid d → IsOnGrid e → IsTrue (at_most (exact d) (exact e)) → IsTrue (ext_at_most (root_down d) (root_down e))
root_down_rises d e i j h = at-units d.units e.units (size_on_grid d i) (size_on_grid e j) (exact_read d e h)
  where
    at-units : (z w : ℤ) → not_negative z ≤ 2 ^ 242 → not_negative w ≤ 2 ^ 242 → z ≤ℤ w → IsTrue (ext_at_most (root_down (record { units = z })) (root_down (record { units = w })))
    at-units (pos m) (pos n) a b k = down-found m n (minus-order m n k) a b
    at-units (pos m) (negsuc n) a b k = absurd (no-minus m n k)
    at-units (negsuc m) (pos n) a b k = down-found 0 n (omega arith) (omega arith) b
    at-units (negsuc m) (negsuc n) a b k = down-found 0 0 (omega arith) (omega arith) (omega arith)

pub root_up_rises : (d e : Dyadic) → IsOnGrid d → IsOnGrid e → IsTrue (at_most (exact d) (exact e)) → IsTrue (ext_at_most (root_up d) (root_up e))
root_up_rises d e i j h = at-units d.units e.units (size_on_grid d i) (size_on_grid e j) (exact_read d e h)
  where
    at-units : (z w : ℤ) → not_negative z ≤ 2 ^ 242 → not_negative w ≤ 2 ^ 242 → z ≤ℤ w → IsTrue (ext_at_most (root_up (record { units = z })) (root_up (record { units = w })))
    at-units (pos m) (pos n) a b k = up-found m n (minus-order m n k) a b
    at-units (pos m) (negsuc n) a b k = absurd (no-minus m n k)
    at-units (negsuc m) (pos n) a b k = up-found 0 n (omega arith) (omega arith) b
    at-units (negsuc m) (negsuc n) a b k = up-found 0 0 (omega arith) (omega arith) (omega arith)

low-rises : (e f : Ext) → IsExtOnGrid e → IsExtOnGrid f → IsLow f → IsTrue (ext_at_most e f) → IsTrue (ext_at_most (low_root e) (low_root f))
low-rises below_all f i j k h = refl
low-rises (finite d) (finite d') i j k h = root_down_rises d d' i j h
low-rises (finite d) below_all i j k h = absurd (true≢false (sym h))
low-rises above_all (finite d) i j k h = absurd (true≢false (sym h))
low-rises above_all below_all i j k h = absurd (true≢false (sym h))
low-rises e above_all i j k h = absurd k

high-rises : (e f : Ext) → IsExtOnGrid e → IsExtOnGrid f → IsHigh e → IsTrue (ext_at_most e f) → IsTrue (ext_at_most (high_root e) (high_root f))
high-rises below_all f i j k h = absurd k
high-rises (finite d) (finite d') i j k h = root_up_rises d d' i j h
high-rises (finite d) above_all i j k h = below_top (end_of (root_up d))
high-rises (finite d) below_all i j k h = absurd (true≢false (sym h))
high-rises above_all above_all i j k h = refl
high-rises above_all (finite d) i j k h = absurd (true≢false (sym h))
high-rises above_all below_all i j k h = absurd (true≢false (sym h))

pub inverse_square_isotone : (own n own' n' : Interval) → IsKept n → IsKept n' → IsProper n → IsTrue (within own own') → IsTrue (within n n') → IsTrue (within (inverse_square own n) (inverse_square own' n'))
inverse_square_isotone own nothing own' n' i j p a b = refl
inverse_square_isotone own (between l h) own' nothing i j p a b = absurd (true≢false (sym b))
inverse_square_isotone own (between l h) own' (between m k) i j p a b =
    let q = both_true (ext_at_most m l) (ext_at_most h k) b in
    let low = low-rises m l j.0 i.0 p.1 q.0 in let high = high-rises h k i.1 j.1 p.2 q.1 in
    hull_isotone (met own (between (negated_ext (high_root h)) (negated_ext (low_root l)))) (met own (between (low_root l) (high_root h)))
    (met own' (between (negated_ext (high_root k)) (negated_ext (low_root m)))) (met own' (between (low_root m) (high_root k)))
    (met_isotone own (between (negated_ext (high_root h)) (negated_ext (low_root l))) own' (between (negated_ext (high_root k)) (negated_ext (low_root m))) a
    (both_pass (ext_at_most (negated_ext (high_root k)) (negated_ext (high_root h))) (ext_at_most (negated_ext (low_root l)) (negated_ext (low_root m))) (negated_ext_falls (high_root h) (high_root k) high) (negated_ext_falls (low_root m) (low_root l) low)))
    (met_isotone own (between (low_root l) (high_root h)) own' (between (low_root m) (high_root k)) a
    (both_pass (ext_at_most (low_root m) (low_root l)) (ext_at_most (high_root h) (high_root k)) low high))
