-- One over an exact end, by which its quotients are products.
use Rattle.std.proofs.Common.{◌≡◌, ◌⊎◌, inl, inr, ℕ, suc, zero, ◌*◌, ◌<◌, Bool, true, false, cond, IsTrue, refl, ap, sym, subst, arith, true≢false, ℤ, pos, negsuc, ◌*ℤ◌, neg_ℤ, ◌≤ℤ◌, mul-pos}
use Rattle.dyadic.specs.Fraction.{Fraction, IsFraction, at_most, product_of, zero_fraction, quotient_of, over}
use Rattle.dyadic.specs.Rounding.{End, minus_infinity, at, plus_infinity, end_at_most}
use Rattle.dyadic.specs.End.{Sign, below, above, sign_of, end_sign, infinite, end_product, end_quotient, lesser, greater}
use Rattle.interval_model.specs.Interval.{is_above, is_below}
use Rattle.dyadic.proofs.Ring
use Rattle.dyadic.proofs.Ring.{Is, atom, natural, plus, minus, times, same, read_below}
use Rattle.dyadic.proofs.Equal.{◌≈◌, holds_le, le_holds, at_most_same, at_least_same}
use Rattle.interval_model.proofs.Ends.{◌⊑◌, Good, value, end_trans, lesser_below, greater_above, good_product, good_lesser, good_greater, zero_is_good, good_infinite, product_is_good, end_signs, Rises, first_below, both_nought, to_above}
use Rattle.interval_model.proofs.EndsProducts.{at_most_refl, end_refl, least_of_four, greatest_of_four, times_zero_low, times_zero_high}

-- ---- one over a fraction, and one over an end: 0 for 0 and for an infinity

abbrev pub one_over : ℤ → ℕ → Fraction
one_over (pos zero) d = zero_fraction
one_over (pos (suc n)) d = value (pos d) (suc n)
one_over (negsuc n) d = value (neg_ℤ (pos d)) (suc n)

abbrev pub inverse_of : Fraction → Fraction
inverse_of q = one_over q.num q.den

abbrev pub inverse_end : End → End
inverse_end (at q) = at (inverse_of q)
inverse_end e = at zero_fraction

inverse-good-at : (z : ℤ) (d : ℕ) → IsFraction (one_over z d)
inverse-good-at (pos zero) d = zero_is_good
inverse-good-at (pos (suc n)) d = omega arith
inverse-good-at (negsuc n) d = omega arith

pub good_inverse : (e : End) → Good (inverse_end e)
good_inverse minus_infinity = zero_is_good
good_inverse (at q) = inverse-good-at q.num q.den
good_inverse plus_infinity = zero_is_good

-- a quotient is the product with one over the divisor
minus-over : (a : ℤ) (d : ℕ) → neg_ℤ (a *ℤ pos d) ≡ a *ℤ neg_ℤ (pos d)
minus-over a d = same (minus (times (atom a) (natural d))) (times (atom a) (minus (natural d))) (omega arith)

quotient-at : (p : Fraction) (z : ℤ) (d : ℕ) → over p z d ≈ product_of p (one_over z d)
unfolding product_of
quotient-at p (pos zero) d = record { same = same (times (natural 0) (natural (p.den * 1))) (times (times (atom p.num) (natural 0)) (natural 1)) (omega arith) }
quotient-at p (pos (suc n)) d = record { same = refl }
quotient-at p (negsuc n) d = record { same = ap (λ z. z *ℤ pos (p.den * suc n)) (minus-over p.num d) }

pub quotient_is : (p q : Fraction) → quotient_of p q ≈ product_of p (inverse_of q)
unfolding quotient_of
quotient_is p q = quotient-at p q.num q.den

over-good : (p : Fraction) (z : ℤ) (d : ℕ) → IsFraction p → IsFraction (over p z d)
over-good p (pos zero) d i = zero_is_good
over-good p (pos (suc n)) d i = mul-pos i (let k : 0 < suc n = omega arith in k)
over-good p (negsuc n) d i = mul-pos i (let k : 0 < suc n = omega arith in k)

pub quotient_is_good : (p q : Fraction) → IsFraction p → IsFraction (quotient_of p q)
unfolding quotient_of
quotient_is_good p q i = over-good p q.num q.den i

-- two ends that lie below each other
pub record Alike (e f : End) : Type 0 where
  pub low : ◌⊑◌ e f
  pub high : ◌⊑◌ f e

alike-at : (p q : Fraction) → IsFraction p → IsFraction q → p ≈ q → Alike (at p) (at q)
alike-at p q i j s = record {
  low = subst IsTrue (at_least_same p i j s) (at_most_refl p);
  high = subst IsTrue (at_most_same p i j s) (at_most_refl p);
}

sign-of-positive : (d : ℕ) → 0 < d → sign_of (pos d) ≡ above
sign-of-positive zero g = absurd (omega arith)
sign-of-positive (suc d) g = refl

sign-of-negative : (d : ℕ) → 0 < d → sign_of (neg_ℤ (pos d)) ≡ below
sign-of-negative zero g = absurd (omega arith)
sign-of-negative (suc d) g = refl

inverse-sign : (z : ℤ) (d : ℕ) → 0 < d → sign_of (one_over z d).num ≡ sign_of z
inverse-sign (pos zero) d g = refl
inverse-sign (pos (suc n)) d g = sign-of-positive d g
inverse-sign (negsuc n) d g = sign-of-negative d g

alike-equal : (e f : End) → e ≡ f → Alike e f
alike-equal e f h = record { low = subst (λ (z : End). ◌⊑◌ e z) h (end_refl e); high = subst (λ (z : End). ◌⊑◌ z e) h (end_refl e) }

pub end_quotient_is : (e f : End) → Good e → Good f → Alike (end_quotient e f) (end_product e (inverse_end f))
end_quotient_is (at p) (at q) i j = alike-at (quotient_of p q) (product_of p (inverse_of q)) (quotient_is_good p q i) (product_is_good p (inverse_of q) i (good_inverse (at q))) (quotient_is p q)
end_quotient_is (at p) minus_infinity i j = record { low = times_zero_low (at p); high = times_zero_high (at p) }
end_quotient_is (at p) plus_infinity i j = record { low = times_zero_low (at p); high = times_zero_high (at p) }
end_quotient_is minus_infinity (at q) i j = alike-equal (infinite below (sign_of q.num)) (infinite below (sign_of (inverse_of q).num)) (ap (infinite below) (sym (inverse-sign q.num q.den j)))
end_quotient_is minus_infinity minus_infinity i j = alike-equal (at zero_fraction) (at zero_fraction) refl
end_quotient_is minus_infinity plus_infinity i j = alike-equal (at zero_fraction) (at zero_fraction) refl
end_quotient_is plus_infinity (at q) i j = alike-equal (infinite above (sign_of q.num)) (infinite above (sign_of (inverse_of q).num)) (ap (infinite above) (sym (inverse-sign q.num q.den j)))
end_quotient_is plus_infinity minus_infinity i j = alike-equal (at zero_fraction) (at zero_fraction) refl
end_quotient_is plus_infinity plus_infinity i j = alike-equal (at zero_fraction) (at zero_fraction) refl

pub good_quotient : (e f : End) → Good e → Good f → Good (end_quotient e f)
good_quotient (at p) (at q) i j = quotient_is_good p q i
good_quotient (at p) minus_infinity i j = zero_is_good
good_quotient (at p) plus_infinity i j = zero_is_good
good_quotient minus_infinity (at q) i j = good_infinite below (sign_of q.num)
good_quotient minus_infinity minus_infinity i j = zero_is_good
good_quotient minus_infinity plus_infinity i j = zero_is_good
good_quotient plus_infinity (at q) i j = good_infinite above (sign_of q.num)
good_quotient plus_infinity minus_infinity i j = zero_is_good
good_quotient plus_infinity plus_infinity i j = zero_is_good

-- ---- signs of ends

abbrev pub IsAbove : End → Type 0
IsAbove e = IsTrue (is_above (end_sign e))

abbrev pub IsBelow : End → Type 0
IsBelow e = IsTrue (is_below (end_sign e))

rises-on : {s t : Sign} → Rises s t → IsTrue (is_above s) → IsTrue (is_above t)
rises-on first_below h = absurd (true≢false (sym h))
rises-on both_nought h = h
rises-on to_above h = refl

falls-on : {s t : Sign} → Rises s t → IsTrue (is_below t) → IsTrue (is_below s)
falls-on first_below h = refl
falls-on both_nought h = h
falls-on to_above h = absurd (true≢false (sym h))

-- what lies above an end that is above 0 is above 0
pub above_rises : (e f : End) → Good e → Good f → ◌⊑◌ e f → IsAbove e → IsAbove f
above_rises e f i j h a = rises-on (end_signs e f i j h) a

pub below_falls : (e f : End) → Good e → Good f → ◌⊑◌ e f → IsBelow f → IsBelow e
below_falls e f i j h a = falls-on (end_signs e f i j h) a

pub from_zero : (n d : ℕ) → IsTrue (at_most zero_fraction (value (pos n) d))
unfolding at_most
from_zero n d = le_holds _ _ (Ring.below (times (natural 0) (natural d)) (times (natural n) (natural 1)) (omega arith))

pub to_zero : (n d : ℕ) → IsTrue (at_most (value (negsuc n) d) zero_fraction)
unfolding at_most
to_zero n d = le_holds _ _ (Ring.below (times (minus (natural (suc n))) (natural 1)) (times (natural 0) (natural d)) (omega arith))

pub above_is_high : (e : End) → IsAbove e → ◌⊑◌ (at zero_fraction) e
above_is_high minus_infinity h = absurd (true≢false (sym h))
above_is_high plus_infinity h = refl
above_is_high (at q) h = go q.num q.den h
  where
    go : (z : ℤ) (d : ℕ) → IsTrue (is_above (sign_of z)) → IsTrue (at_most zero_fraction (value z d))
    go (pos n) d h' = from_zero n d
    go (negsuc n) d h' = absurd (true≢false (sym h'))

pub below_is_low : (e : End) → IsBelow e → ◌⊑◌ e (at zero_fraction)
below_is_low plus_infinity h = absurd (true≢false (sym h))
below_is_low minus_infinity h = refl
below_is_low (at q) h = go q.num q.den h
  where
    go : (z : ℤ) (d : ℕ) → IsTrue (is_below (sign_of z)) → IsTrue (at_most (value z d) zero_fraction)
    go (pos zero) d h' = absurd (true≢false (sym h'))
    go (pos (suc n)) d h' = absurd (true≢false (sym h'))
    go (negsuc n) d h' = to_zero n d

-- ---- one over an end keeps its sign, and falls

pub inverse_high : (e : End) → Good e → IsAbove e → ◌⊑◌ (at zero_fraction) (inverse_end e)
inverse_high minus_infinity i h = at_most_refl zero_fraction
inverse_high plus_infinity i h = at_most_refl zero_fraction
inverse_high (at q) i h = above_is_high (at (inverse_of q)) (rw (inverse-sign q.num q.den i) h)

pub inverse_low : (e : End) → Good e → IsBelow e → ◌⊑◌ (inverse_end e) (at zero_fraction)
inverse_low minus_infinity i h = at_most_refl zero_fraction
inverse_low plus_infinity i h = at_most_refl zero_fraction
inverse_low (at q) i h = below_is_low (at (inverse_of q)) (rw (inverse-sign q.num q.den i) h)

falls-above-at : (n d m e : ℕ) → (pos (suc n) *ℤ pos e) ≤ℤ (pos (suc m) *ℤ pos d) → (pos e *ℤ pos (suc n)) ≤ℤ (pos d *ℤ pos (suc m))
falls-above-at n d m e h = Ring.below (times (natural e) (natural (suc n))) (times (natural d) (natural (suc m))) (omega (arith, read_below (times (natural (suc n)) (natural e)) (times (natural (suc m)) (natural d)) h))

falls-below-at : (n d m e : ℕ) → (negsuc n *ℤ pos e) ≤ℤ (negsuc m *ℤ pos d) → (neg_ℤ (pos e) *ℤ pos (suc n)) ≤ℤ (neg_ℤ (pos d) *ℤ pos (suc m))
falls-below-at n d m e h = Ring.below (times (minus (natural e)) (natural (suc n))) (times (minus (natural d)) (natural (suc m)))
    (omega (arith, read_below (times (minus (natural (suc n))) (natural e)) (times (minus (natural (suc m))) (natural d)) h))

fraction-falls-above : (z : ℤ) (d : ℕ) (w : ℤ) (e : ℕ) → IsTrue (is_above (sign_of z)) → IsTrue (is_above (sign_of w)) → IsTrue (at_most (value z d) (value w e)) → IsTrue (at_most (one_over w e) (one_over z d))
unfolding at_most
fraction-falls-above (pos (suc n)) d (pos (suc m)) e a b h = le_holds _ _ (falls-above-at n d m e (holds_le _ _ h))
fraction-falls-above (pos zero) d w e a b h = absurd (true≢false (sym a))
fraction-falls-above (negsuc n) d w e a b h = absurd (true≢false (sym a))
fraction-falls-above (pos (suc n)) d (pos zero) e a b h = absurd (true≢false (sym b))
fraction-falls-above (pos (suc n)) d (negsuc m) e a b h = absurd (true≢false (sym b))

fraction-falls-below : (z : ℤ) (d : ℕ) (w : ℤ) (e : ℕ) → IsTrue (is_below (sign_of z)) → IsTrue (is_below (sign_of w)) → IsTrue (at_most (value z d) (value w e)) → IsTrue (at_most (one_over w e) (one_over z d))
unfolding at_most
fraction-falls-below (negsuc n) d (negsuc m) e a b h = le_holds _ _ (falls-below-at n d m e (holds_le _ _ h))
fraction-falls-below (pos zero) d w e a b h = absurd (true≢false (sym a))
fraction-falls-below (pos (suc n)) d w e a b h = absurd (true≢false (sym a))
fraction-falls-below (negsuc n) d (pos zero) e a b h = absurd (true≢false (sym b))
fraction-falls-below (negsuc n) d (pos (suc m)) e a b h = absurd (true≢false (sym b))

pub inverse_falls_above : (e f : End) → Good e → Good f → IsAbove e → ◌⊑◌ e f → ◌⊑◌ (inverse_end f) (inverse_end e)
inverse_falls_above minus_infinity f i j a h = absurd (true≢false (sym a))
inverse_falls_above (at p) (at q) i j a h = fraction-falls-above p.num p.den q.num q.den a (above_rises (at p) (at q) i j h a) h
inverse_falls_above (at p) plus_infinity i j a h = inverse_high (at p) i a
inverse_falls_above (at p) minus_infinity i j a h = absurd (true≢false (sym h))
inverse_falls_above plus_infinity plus_infinity i j a h = at_most_refl zero_fraction
inverse_falls_above plus_infinity (at q) i j a h = absurd (true≢false (sym h))
inverse_falls_above plus_infinity minus_infinity i j a h = absurd (true≢false (sym h))

pub inverse_falls_below : (e f : End) → Good e → Good f → IsBelow f → ◌⊑◌ e f → ◌⊑◌ (inverse_end f) (inverse_end e)
inverse_falls_below e plus_infinity i j a h = absurd (true≢false (sym a))
inverse_falls_below (at p) (at q) i j a h = fraction-falls-below p.num p.den q.num q.den (below_falls (at p) (at q) i j h a) a h
inverse_falls_below minus_infinity (at q) i j a h = inverse_low (at q) j a
inverse_falls_below plus_infinity (at q) i j a h = absurd (true≢false (sym h))
inverse_falls_below minus_infinity minus_infinity i j a h = at_most_refl zero_fraction
inverse_falls_below (at p) minus_infinity i j a h = absurd (true≢false (sym h))
inverse_falls_below plus_infinity minus_infinity i j a h = absurd (true≢false (sym h))

-- ---- the four quotients are products with one over

lesser-split : (e f g : End) → ◌⊑◌ (lesser e f) g → ◌⊑◌ e g ⊎ ◌⊑◌ f g
lesser-split e f g h = go (end_at_most e f) h
  where
    go : (t : Bool) → ◌⊑◌ (cond t e f) g → ◌⊑◌ e g ⊎ ◌⊑◌ f g
    go true k = inl k
    go false k = inr k

greater-split : (e f g : End) → ◌⊑◌ g (greater e f) → ◌⊑◌ g e ⊎ ◌⊑◌ g f
greater-split e f g h = go (end_at_most e f) h
  where
    go : (t : Bool) → ◌⊑◌ g (cond t f e) → ◌⊑◌ g e ⊎ ◌⊑◌ g f
    go true k = inr k
    go false k = inl k

pub quotient_low : (e f g : End) → Good e → Good f → ◌⊑◌ (end_product e (inverse_end f)) g → ◌⊑◌ (end_quotient e f) g
quotient_low e f g k m x = end_trans (end_quotient e f) (end_product e (inverse_end f)) g (good_product e (inverse_end f) k (good_inverse f)) (end_quotient_is e f k m).low x

pub quotient_high : (e f g : End) → Good e → Good f → ◌⊑◌ g (end_product e (inverse_end f)) → ◌⊑◌ g (end_quotient e f)
quotient_high e f g k m x = end_trans g (end_product e (inverse_end f)) (end_quotient e f) (good_product e (inverse_end f) k (good_inverse f)) x (end_quotient_is e f k m).high

-- l, h divided by a, b and multiplied with one over b, one over a
module _ (l h a b g : End) (i : Good l) (j : Good h) (i' : Good a) (j' : Good b) where
  pub good_least_quotient : Good (least_of_four end_quotient l h a b)
  good_least_quotient = good_lesser _ _ (good_lesser _ _ (good_quotient l a i i') (good_quotient l b i j')) (good_lesser _ _ (good_quotient h a j i') (good_quotient h b j j'))

  pub good_greatest_quotient : Good (greatest_of_four end_quotient l h a b)
  good_greatest_quotient = good_greater _ _ (good_greater _ _ (good_quotient l a i i') (good_quotient l b i j')) (good_greater _ _ (good_quotient h a j i') (good_quotient h b j j'))

  half-low : (e : End) → Good e → ◌⊑◌ (lesser (end_product e (inverse_end b)) (end_product e (inverse_end a))) g → ◌⊑◌ (lesser (end_quotient e a) (end_quotient e b)) g
  half-low e k x = lesser_below (end_quotient e a) (end_quotient e b) g (good_quotient e a k i') (good_quotient e b k j')
      (elim (lesser-split (end_product e (inverse_end b)) (end_product e (inverse_end a)) g x) [ inl y ↦ inr (quotient_low e b g k j' y) | inr y ↦ inl (quotient_low e a g k i' y) ])

  half-high : (e : End) → Good e → ◌⊑◌ g (greater (end_product e (inverse_end b)) (end_product e (inverse_end a))) → ◌⊑◌ g (greater (end_quotient e a) (end_quotient e b))
  half-high e k x = greater_above (end_quotient e a) (end_quotient e b) g (good_quotient e a k i') (good_quotient e b k j')
      (elim (greater-split (end_product e (inverse_end b)) (end_product e (inverse_end a)) g x) [ inl y ↦ inr (quotient_high e b g k j' y) | inr y ↦ inl (quotient_high e a g k i' y) ])

  pub quotients_below : ◌⊑◌ (least_of_four end_product l h (inverse_end b) (inverse_end a)) g → ◌⊑◌ (least_of_four end_quotient l h a b) g
  quotients_below x = lesser_below (lesser (end_quotient l a) (end_quotient l b)) (lesser (end_quotient h a) (end_quotient h b)) g
      (good_lesser _ _ (good_quotient l a i i') (good_quotient l b i j')) (good_lesser _ _ (good_quotient h a j i') (good_quotient h b j j'))
      (elim (lesser-split (lesser (end_product l (inverse_end b)) (end_product l (inverse_end a))) (lesser (end_product h (inverse_end b)) (end_product h (inverse_end a))) g x) [ inl y ↦ inl (half-low l i y) | inr y ↦ inr (half-low h j y) ])

  pub quotients_above : ◌⊑◌ g (greatest_of_four end_product l h (inverse_end b) (inverse_end a)) → ◌⊑◌ g (greatest_of_four end_quotient l h a b)
  quotients_above x = greater_above (greater (end_quotient l a) (end_quotient l b)) (greater (end_quotient h a) (end_quotient h b)) g
      (good_greater _ _ (good_quotient l a i i') (good_quotient l b i j')) (good_greater _ _ (good_quotient h a j i') (good_quotient h b j j'))
      (elim (greater-split (greater (end_product l (inverse_end b)) (end_product l (inverse_end a))) (greater (end_product h (inverse_end b)) (end_product h (inverse_end a))) g x) [ inl y ↦ inl (half-high l i y) | inr y ↦ inr (half-high h j y) ])

-- where 0 lies outside a to b, one over what lies between them lies between one over b and one over a
pub inverse_between_low : (a b f : End) → Good a → Good b → Good f → IsBelow b ⊎ IsAbove a → ◌⊑◌ a f → ◌⊑◌ f b → ◌⊑◌ (inverse_end b) (inverse_end f)
inverse_between_low a b f i j k (inl m) x y = inverse_falls_below f b k j m y
inverse_between_low a b f i j k (inr m) x y = inverse_falls_above f b k j (above_rises a f i k x m) y

pub inverse_between_high : (a b f : End) → Good a → Good b → Good f → IsBelow b ⊎ IsAbove a → ◌⊑◌ a f → ◌⊑◌ f b → ◌⊑◌ (inverse_end f) (inverse_end a)
inverse_between_high a b f i j k (inl m) x y = inverse_falls_below a f i k (below_falls f b k j y m) x
inverse_between_high a b f i j k (inr m) x y = inverse_falls_above a f i k m x
