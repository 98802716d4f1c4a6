-- Sums and opposites of exact ends, and rounding's side.
use Rattle.std.proofs.Common.{◌≡◌, ℕ, ◌*◌, IsTrue, refl, sym, arith, true≢false, ℤ, pos, ◌*ℤ◌, ◌+ℤ◌, ◌≤ℤ◌, neg_ℤ, mul-pos, mul-le-mul_right, lit<}
use Rattle.dyadic.specs.Fraction.{Fraction, IsFraction, at_most, sum_of, negated}
use Rattle.dyadic.specs.Rounding.{Dyadic, exact, End, minus_infinity, at, plus_infinity, Ext, below_all, finite, above_all, end_of}
use Rattle.dyadic.specs.End.{end_sum, negated_ext, negated_dyadic}
use Rattle.dyadic.proofs.Equal.{holds_le, le_holds}
use Rattle.dyadic.proofs.Ring
use Rattle.dyadic.proofs.Ring.{Is, atom, natural, plus, minus, times, read_below}
use Rattle.interval_model.proofs.Ends.{◌⊑◌, Good}

pub good_ext : (e : Ext) → Good (end_of e)
good_ext below_all = tt
good_ext (finite d) = lit< tt
good_ext above_all = tt

-- ---- sums and negations

sum-at : (p q x y : ℤ) (b d c e : ℕ) → (p *ℤ pos c) ≤ℤ (x *ℤ pos b) → (q *ℤ pos e) ≤ℤ (y *ℤ pos d) →
    (((p *ℤ pos d) +ℤ (q *ℤ pos b)) *ℤ pos (c * e)) ≤ℤ (((x *ℤ pos e) +ℤ (y *ℤ pos c)) *ℤ pos (b * d))
sum-at p q x y b d c e h k = Ring.below (times (plus (times (atom p) (natural d)) (times (atom q) (natural b))) (natural (c * e)))
    (times (plus (times (atom x) (natural e)) (times (atom y) (natural c))) (natural (b * d)))
    (omega (
      arith,
      mul-le-mul_right (d * e) (read_below (times (atom p) (natural c)) (times (atom x) (natural b)) h),
      mul-le-mul_right (b * c) (read_below (times (atom q) (natural e)) (times (atom y) (natural d)) k),
    ))

pub sum_mono : (p q x y : Fraction) → IsTrue (at_most p x) → IsTrue (at_most q y) → IsTrue (at_most (sum_of p q) (sum_of x y))
unfolding at_most sum_of
sum_mono p q x y h k = le_holds _ _ (sum-at p.num q.num x.num y.num p.den q.den x.den y.den (holds_le _ _ h) (holds_le _ _ k))

pub sum_is_good : (p q : Fraction) → IsFraction p → IsFraction q → IsFraction (sum_of p q)
unfolding sum_of
sum_is_good p q i j = mul-pos i j

negated-at : (p x : ℤ) (b c : ℕ) → (p *ℤ pos c) ≤ℤ (x *ℤ pos b) → (neg_ℤ x *ℤ pos b) ≤ℤ (neg_ℤ p *ℤ pos c)
negated-at p x b c h = Ring.below (times (minus (atom x)) (natural b)) (times (minus (atom p)) (natural c)) (omega (arith, read_below (times (atom p) (natural c)) (times (atom x) (natural b)) h))

pub negated_mono : (p x : Fraction) → IsTrue (at_most p x) → IsTrue (at_most (negated x) (negated p))
unfolding at_most negated
negated_mono p x h = le_holds _ _ (negated-at p.num x.num p.den x.den (holds_le _ _ h))

pub exact_negated : (d : Dyadic) → negated (exact d) ≡ exact (negated_dyadic d)
unfolding negated
exact_negated d = refl

pub negated_below : (e : Ext) (v : Fraction) → ◌⊑◌ (end_of e) (at v) → ◌⊑◌ (at (negated v)) (end_of (negated_ext e))
negated_below below_all v h = refl
negated_below (finite d) v h = rw (← exact_negated d) (negated_mono (exact d) v h)
negated_below above_all v h = absurd (true≢false (sym h))

pub negated_above : (e : Ext) (v : Fraction) → ◌⊑◌ (at v) (end_of e) → ◌⊑◌ (end_of (negated_ext e)) (at (negated v))
negated_above above_all v h = refl
negated_above (finite d) v h = rw (← exact_negated d) (negated_mono v (exact d) h)
negated_above below_all v h = absurd (true≢false (sym h))

pub sum_below : (e f : End) (x y : Fraction) → ◌⊑◌ e (at x) → ◌⊑◌ f (at y) → ◌⊑◌ (end_sum e f) (at (sum_of x y))
sum_below minus_infinity f x y h k = refl
sum_below (at p) (at q) x y h k = sum_mono p q x y h k
sum_below (at p) minus_infinity x y h k = refl
sum_below (at p) plus_infinity x y h k = absurd (true≢false (sym k))
sum_below plus_infinity f x y h k = absurd (true≢false (sym h))

pub sum_above : (e f : End) (x y : Fraction) → ◌⊑◌ (at x) e → ◌⊑◌ (at y) f → ◌⊑◌ (at (sum_of x y)) (end_sum e f)
sum_above plus_infinity f x y h k = refl
sum_above (at p) (at q) x y h k = sum_mono x y p q h k
sum_above (at p) plus_infinity x y h k = refl
sum_above (at p) minus_infinity x y h k = absurd (true≢false (sym k))
sum_above minus_infinity f x y h k = absurd (true≢false (sym h))

pub good_sum : (e f : End) → Good e → Good f → Good (end_sum e f)
good_sum minus_infinity f i j = tt
good_sum (at p) (at q) i j = sum_is_good p q i j
good_sum (at p) minus_infinity i j = tt
good_sum (at p) plus_infinity i j = tt
good_sum plus_infinity f i j = tt

pub negated_is_good : (q : Fraction) → IsFraction q → IsFraction (negated q)
unfolding negated
negated_is_good q i = i
