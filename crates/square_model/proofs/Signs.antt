-- Numbers that are not negative.
use Rattle.std.proofs.Common.{◌≡◌, ℕ, suc, ◌*◌, arith, IsTrue, refl, ap₂, subst, ℤ, pos, negsuc, ◌*ℤ◌, ◌≤ℤ◌}
use Rattle.std.proofs.lemmas.Int.{ints}
use Rattle.dyadic.specs.Fraction.{Fraction, at_most, zero_fraction, product_of, negated}
use Rattle.dyadic.proofs.Equal.{holds_le, le_holds, at_most_same, at_least_same}
use Rattle.interval_model.proofs.EndsProducts.{at_most_refl}
use Rattle.interval_model.proofs.EndsSums.{sum_mono, negated_mono}
use Rattle.square_model.proofs.Numbers.{Number, nought, plus_of, times_of, less, nought_right, cancelled}

abbrev pub NotNegative : Number → Type 0
NotNegative x = IsTrue (at_most zero_fraction x.value)

-- a size above the line
abbrev IsSize : Number → Type 0
IsSize x = (k : ℕ) × (x.value.num ≡ pos k)

size-of : (z : ℤ) → (pos 0 *ℤ pos 1) ≤ℤ (z *ℤ pos 1) → (k : ℕ) × (z ≡ pos k)
size-of (pos k) h = (k, refl)
size-of (negsuc k) h = absurd (omega (arith, ints, h))

from-zero : (z : ℤ) (d : ℕ) → (pos 0 *ℤ pos d) ≤ℤ (z *ℤ pos 1) → (k : ℕ) × (z ≡ pos k)
from-zero (pos k) d h = (k, refl)
from-zero (negsuc k) d h = absurd (omega (arith, ints, h))

to-zero : (z : ℤ) (d k : ℕ) → z ≡ pos k → (pos 0 *ℤ pos d) ≤ℤ (z *ℤ pos 1)
to-zero z d k e = omega (arith, ints, e)

sized : (x : Number) → NotNegative x → IsSize x
unfolding at_most
sized x h = from-zero x.value.num x.value.den (holds_le _ _ h)

unsized : (x : Number) → IsSize x → NotNegative x
unfolding at_most
unsized x s = le_holds _ _ (to-zero x.value.num x.value.den s.0 s.1)

product-of-sizes : (y z : ℤ) (k l : ℕ) → y ≡ pos k → z ≡ pos l → (n : ℕ) × (y *ℤ z ≡ pos n)
product-of-sizes y z k l e f = (k * l, ap₂ (λ (a b : ℤ). a *ℤ b) e f)

square-size : (z : ℤ) → (n : ℕ) × (z *ℤ z ≡ pos n)
square-size (pos k) = (k * k, refl)
square-size (negsuc k) = (suc k * suc k, refl)

pub nought_not_negative : NotNegative nought
unfolding at_most
nought_not_negative = refl

pub plus_not_negative : (x y : Number) → NotNegative x → NotNegative y → NotNegative (plus_of x y)
plus_not_negative x y h k = subst IsTrue (at_most_same (plus_of x y).value (plus_of nought nought).good nought.good (nought_right nought))
    (sum_mono zero_fraction zero_fraction x.value y.value h k)

pub times_not_negative : (x y : Number) → NotNegative x → NotNegative y → NotNegative (times_of x y)
unfolding product_of
times_not_negative x y h k = let s = sized x h in let t = sized y k in unsized (times_of x y) (product-of-sizes x.value.num y.value.num s.0 t.0 s.1 t.1)

pub square_not_negative : (x : Number) → NotNegative (times_of x x)
unfolding product_of
square_not_negative x = unsized (times_of x x) (square-size x.value.num)

-- a difference to what is at most as much
pub less_not_negative : (x h : Number) → IsTrue (at_most x.value h.value) → NotNegative (less h x)
less_not_negative x h l = subst IsTrue (at_most_same (less h x).value (less x x).good nought.good (cancelled x))
    (sum_mono x.value (negated x.value) h.value (negated x.value) l (at_most_refl (negated x.value)))

negated-zero : negated zero_fraction ≡ zero_fraction
unfolding negated
negated-zero = refl

negated-below : (x : Number) → NotNegative x → IsTrue (at_most (negated x.value) zero_fraction)
negated-below x h = subst (λ (q : Fraction). IsTrue (at_most (negated x.value) q)) negated-zero (negated_mono zero_fraction x.value h)

-- less what is not negative, a number is at most itself
pub less_is_below : (v x : Number) → NotNegative x → IsTrue (at_most (less v x).value v.value)
less_is_below v x h = subst IsTrue (at_least_same (less v x).value (plus_of v nought).good v.good (nought_right v))
    (sum_mono v.value (negated x.value) v.value zero_fraction (at_most_refl v.value) (negated-below x h))
