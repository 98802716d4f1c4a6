-- The order of exact ends, and products between them.
use Rattle.std.proofs.Common.{◌≡◌, ◌⊎◌, inl, inr, ℕ, suc, zero, ◌*◌, ◌<◌, Bool, true, false, cond, IsTrue, refl, ap, sym, ◌∙◌, arith, true≢false, ℤ, pos, negsuc, ◌*ℤ◌, ◌≤ℤ◌, mul-pos, mul-le-mul_right, mul_comm}
use Rattle.std.proofs.Math.IntN.{*ℤ_comm}
use Rattle.dyadic.specs.Fraction.{Fraction, IsFraction, at_most, product_of, zero_fraction}
use Rattle.dyadic.specs.Rounding.{End, minus_infinity, at, plus_infinity, end_at_most}
use Rattle.dyadic.specs.End.{Sign, below, nought, above, sign_of, end_sign, infinite, end_product, lesser, greater}
use Rattle.dyadic.proofs.Equal.{through, total, holds_le, le_holds}
use Rattle.dyadic.proofs.Ring
use Rattle.dyadic.proofs.Ring.{Is, atom, natural, plus, minus, times, read_below}

abbrev pub Good : End → Type 0
Good (at q) = IsFraction q
Good minus_infinity = Unit {0}
Good plus_infinity = Unit {0}

abbrev pub ◌⊑◌ : End → End → Type 0
◌⊑◌ e f = IsTrue (end_at_most e f)

pub end_trans : (e f g : End) → Good f → ◌⊑◌ e f → ◌⊑◌ f g → ◌⊑◌ e g
end_trans minus_infinity f g i h k = refl
end_trans (at p) (at q) (at r) i h k = through p q r i h k
end_trans (at p) (at q) plus_infinity i h k = refl
end_trans (at p) (at q) minus_infinity i h k = k
end_trans (at p) plus_infinity plus_infinity i h k = refl
end_trans (at p) plus_infinity (at r) i h k = absurd (true≢false (sym k))
end_trans (at p) plus_infinity minus_infinity i h k = k
end_trans (at p) minus_infinity g i h k = absurd (true≢false (sym h))
end_trans plus_infinity plus_infinity g i h k = k
end_trans plus_infinity (at q) g i h k = absurd (true≢false (sym h))
end_trans plus_infinity minus_infinity g i h k = absurd (true≢false (sym h))

pub end_total : (e f : End) → ◌⊑◌ e f ⊎ ◌⊑◌ f e
end_total minus_infinity f = inl refl
end_total (at p) minus_infinity = inr refl
end_total (at p) (at q) = total p q
end_total (at p) plus_infinity = inl refl
end_total plus_infinity minus_infinity = inr refl
end_total plus_infinity (at q) = inr refl
end_total plus_infinity plus_infinity = inl refl

pub other_way : (e f : End) → end_at_most e f ≡ false → ◌⊑◌ f e
other_way e f h = elim (end_total e f) [ inl k ↦ absurd (true≢false (sym k ∙ h)) | inr k ↦ k ]

-- the lesser is below what one of the two is below
lesser-at : (e f g : End) (t : Bool) → end_at_most e f ≡ t → Good e → Good f → ◌⊑◌ e g ⊎ ◌⊑◌ f g → ◌⊑◌ (cond t e f) g
lesser-at e f g true h i j (inl k) = k
lesser-at e f g true h i j (inr k) = end_trans e f g j h k
lesser-at e f g false h i j (inl k) = end_trans f e g i (other_way e f h) k
lesser-at e f g false h i j (inr k) = k

pub lesser_below : (e f g : End) → Good e → Good f → ◌⊑◌ e g ⊎ ◌⊑◌ f g → ◌⊑◌ (lesser e f) g
lesser_below e f g i j k = lesser-at e f g (end_at_most e f) refl i j k

greater-at : (e f g : End) (t : Bool) → end_at_most e f ≡ t → Good e → Good f → ◌⊑◌ g e ⊎ ◌⊑◌ g f → ◌⊑◌ g (cond t f e)
greater-at e f g true h i j (inl k) = end_trans g e f i k h
greater-at e f g true h i j (inr k) = k
greater-at e f g false h i j (inl k) = k
greater-at e f g false h i j (inr k) = end_trans g f e j k (other_way e f h)

pub greater_above : (e f g : End) → Good e → Good f → ◌⊑◌ g e ⊎ ◌⊑◌ g f → ◌⊑◌ g (greater e f)
greater_above e f g i j k = greater-at e f g (end_at_most e f) refl i j k

pub good_cond : (t : Bool) (e f : End) → Good e → Good f → Good (cond t e f)
good_cond true e f i j = i
good_cond false e f i j = j

pub zero_is_good : IsFraction zero_fraction
zero_is_good = omega arith

pub good_infinite : (s t : Sign) → Good (infinite s t)
good_infinite nought t = zero_is_good
good_infinite above nought = zero_is_good
good_infinite below nought = zero_is_good
good_infinite above above = tt
good_infinite below below = tt
good_infinite above below = tt
good_infinite below above = tt

-- ---- products of fractions

-- by a factor a/d that is not negative
up-at : (p x : ℤ) (b c : ℕ) (a d : ℕ) → (p *ℤ pos c) ≤ℤ (x *ℤ pos b) → ((p *ℤ pos a) *ℤ pos (c * d)) ≤ℤ ((x *ℤ pos a) *ℤ pos (b * d))
up-at p x b c a d h = Ring.below (times (times (atom p) (natural a)) (natural (c * d))) (times (times (atom x) (natural a)) (natural (b * d)))
    (omega (arith, mul-le-mul_right (a * d) (read_below (times (atom p) (natural c)) (times (atom x) (natural b)) h)))

-- and by one that is negative
down-at : (p x : ℤ) (b c : ℕ) (a d : ℕ) → (p *ℤ pos c) ≤ℤ (x *ℤ pos b) → ((x *ℤ negsuc a) *ℤ pos (b * d)) ≤ℤ ((p *ℤ negsuc a) *ℤ pos (c * d))
down-at p x b c a d h = Ring.below (times (times (atom x) (minus (natural (suc a)))) (natural (b * d))) (times (times (atom p) (minus (natural (suc a)))) (natural (c * d)))
    (omega (arith, mul-le-mul_right (suc a * d) (read_below (times (atom p) (natural c)) (times (atom x) (natural b)) h)))

pub up_product : (p x : Fraction) (a d : ℕ) → IsTrue (at_most p x) → IsTrue (at_most (product_of p (record { num = pos a; den = d })) (product_of x (record { num = pos a; den = d })))
unfolding at_most product_of
up_product p x a d h = le_holds _ _ (up-at p.num x.num p.den x.den a d (holds_le _ _ h))

pub down_product : (p x : Fraction) (a d : ℕ) → IsTrue (at_most p x) → IsTrue (at_most (product_of x (record { num = negsuc a; den = d })) (product_of p (record { num = negsuc a; den = d })))
unfolding at_most product_of
down_product p x a d h = le_holds _ _ (down-at p.num x.num p.den x.den a d (holds_le _ _ h))

pub product_is_good : (p q : Fraction) → IsFraction p → IsFraction q → IsFraction (product_of p q)
unfolding product_of
product_is_good p q i j = mul-pos i j

-- a product with a factor 0 is at most 0, and at least
pub zero_below : (x : Fraction) (d : ℕ) → IsTrue (at_most zero_fraction (product_of x (record { num = pos 0; den = d })))
unfolding at_most product_of
zero_below x d = le_holds _ _ (Ring.below (times (natural 0) (natural (x.den * d))) (times (times (atom x.num) (natural 0)) (natural 1)) (omega arith))

pub zero_above : (x : Fraction) (d : ℕ) → IsTrue (at_most (product_of x (record { num = pos 0; den = d })) zero_fraction)
unfolding at_most product_of
zero_above x d = le_holds _ _ (Ring.below (times (times (atom x.num) (natural 0)) (natural 1)) (times (natural 0) (natural (x.den * d))) (omega arith))

-- ---- products of ends

abbrev pub value : ℤ → ℕ → Fraction
value a d = record { num = a; den = d }

pub good_product : (e f : End) → Good e → Good f → Good (end_product e f)
good_product (at p) (at q) i j = product_is_good p q i j
good_product (at p) minus_infinity i j = good_infinite (sign_of p.num) below
good_product (at p) plus_infinity i j = good_infinite (sign_of p.num) above
good_product minus_infinity (at q) i j = good_infinite below (sign_of q.num)
good_product minus_infinity minus_infinity i j = tt
good_product minus_infinity plus_infinity i j = tt
good_product plus_infinity (at q) i j = good_infinite above (sign_of q.num)
good_product plus_infinity minus_infinity i j = tt
good_product plus_infinity plus_infinity i j = tt

-- ---- products commute

pub infinite_comm : (s t : Sign) → infinite s t ≡ infinite t s
infinite_comm nought nought = refl
infinite_comm nought above = refl
infinite_comm nought below = refl
infinite_comm above nought = refl
infinite_comm above above = refl
infinite_comm above below = refl
infinite_comm below nought = refl
infinite_comm below above = refl
infinite_comm below below = refl

pub product_comm : (p q : Fraction) → product_of p q ≡ product_of q p
unfolding product_of
product_comm p q = λ i. record { num = *ℤ_comm p.num q.num i; den = mul_comm p.den q.den i }

pub end_comm : (e f : End) → end_product e f ≡ end_product f e
end_comm (at p) (at q) = ap at (product_comm p q)
end_comm (at p) minus_infinity = infinite_comm (sign_of p.num) below
end_comm (at p) plus_infinity = infinite_comm (sign_of p.num) above
end_comm minus_infinity (at q) = infinite_comm below (sign_of q.num)
end_comm plus_infinity (at q) = infinite_comm above (sign_of q.num)
end_comm minus_infinity minus_infinity = refl
end_comm minus_infinity plus_infinity = refl
end_comm plus_infinity minus_infinity = refl
end_comm plus_infinity plus_infinity = refl

-- ---- an infinite factor: its products follow the sign of the other

pub data Rises : Sign → Sign → Type 0 where
  first_below : {t : Sign} → Rises below t
  both_nought : Rises nought nought
  to_above : {s : Sign} → Rises s above

pub rises_above : {s t : Sign} → Rises s t → ◌⊑◌ (infinite above s) (infinite above t)
unfolding at_most
rises_above first_below = refl
rises_above both_nought = refl
rises_above {s = below} to_above = refl
rises_above {s = nought} to_above = refl
rises_above {s = above} to_above = refl

pub rises_below : {s t : Sign} → Rises s t → ◌⊑◌ (infinite below t) (infinite below s)
unfolding at_most
rises_below {t = below} first_below = refl
rises_below {t = nought} first_below = refl
rises_below {t = above} first_below = refl
rises_below both_nought = refl
rises_below to_above = refl

-- from the numerators, where the denominators are positive
signs_rise : (m n : ℤ) (b d : ℕ) → 0 < b → 0 < d → (m *ℤ pos d) ≤ℤ (n *ℤ pos b) → Rises (sign_of m) (sign_of n)
signs_rise (negsuc m) n b d i j h = first_below
signs_rise (pos zero) (pos zero) b d i j h = both_nought
signs_rise m (pos (suc n)) b d i j h = to_above
signs_rise (pos zero) (negsuc n) b d i j h = absurd (omega (arith, mul-pos {m = suc n} {n = b} (omega arith) i, read_below (natural (0 * d)) (minus (natural (suc n * b))) h))
signs_rise (pos (suc m)) (pos zero) b d i j h = absurd (omega (arith, mul-pos {m = suc m} {n = d} (omega arith) j, read_below (natural (suc m * d)) (natural (0 * b)) h))
signs_rise (pos (suc m)) (negsuc n) b d i j h = absurd (omega (arith, mul-pos {m = suc m} {n = d} (omega arith) j, read_below (natural (suc m * d)) (minus (natural (suc n * b))) h))

pub fraction_signs : (p q : Fraction) → IsFraction p → IsFraction q → IsTrue (at_most p q) → Rises (sign_of p.num) (sign_of q.num)
unfolding at_most
fraction_signs p q i j h = signs_rise p.num q.num p.den q.den i j (holds_le _ _ h)

pub end_signs : (e f : End) → Good e → Good f → ◌⊑◌ e f → Rises (end_sign e) (end_sign f)
end_signs minus_infinity f i j h = first_below
end_signs (at p) (at q) i j h = fraction_signs p q i j h
end_signs (at p) plus_infinity i j h = to_above
end_signs plus_infinity plus_infinity i j h = to_above
end_signs (at p) minus_infinity i j h = absurd (true≢false (sym h))
end_signs plus_infinity minus_infinity i j h = absurd (true≢false (sym h))
end_signs plus_infinity (at q) i j h = absurd (true≢false (sym h))

pub good_lesser : (e f : End) → Good e → Good f → Good (lesser e f)
good_lesser e f i j = good_cond (end_at_most e f) e f i j

pub good_greater : (e f : End) → Good e → Good f → Good (greater e f)
good_greater e f i j = good_cond (end_at_most e f) f e j i
