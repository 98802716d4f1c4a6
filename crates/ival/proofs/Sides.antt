-- From signs of ends to their order with 0.
use Rattle.std.proofs.Common.{◌≡◌, ℕ, suc, zero, IsTrue, refl, ℤ, pos, negsuc, true≢false, false, true}
use Rattle.dyadic.specs.Fraction.{at_most, zero_fraction}
use Rattle.dyadic.specs.Rounding.{End, minus_infinity, at, plus_infinity}
use Rattle.dyadic.specs.End.{sign_of, end_sign}
use Rattle.interval_model.specs.Interval.{is_below, is_above}
use Rattle.interval_model.proofs.Ends.{◌⊑◌, value}
use Rattle.interval_model.proofs.InversesEnds.{from_zero, to_zero, below_is_low, above_is_high}
use Rattle.interval_model.proofs.InversesSquares.{zero_at_most}

pub high_from : (e : End) → is_below (end_sign e) ≡ false → ◌⊑◌ (at zero_fraction) e
high_from e k = go e k
  where
    at-value : (z : ℤ) (d : ℕ) → is_below (sign_of z) ≡ false → IsTrue (at_most zero_fraction (value z d))
    at-value (pos n) d k' = from_zero n d
    at-value (negsuc n) d k' = absurd (true≢false k')

    go : (f : End) → is_below (end_sign f) ≡ false → ◌⊑◌ (at zero_fraction) f
    go minus_infinity k' = absurd (true≢false k')
    go (at q) k' = at-value q.num q.den k'
    go plus_infinity k' = refl

pub low_from : (e : End) → is_above (end_sign e) ≡ false → ◌⊑◌ e (at zero_fraction)
low_from e k = go e k
  where
    at-value : (z : ℤ) (d : ℕ) → is_above (sign_of z) ≡ false → IsTrue (at_most (value z d) zero_fraction)
    at-value (pos zero) d k' = zero_at_most d
    at-value (pos (suc n)) d k' = absurd (true≢false k')
    at-value (negsuc n) d k' = to_zero n d

    go : (f : End) → is_above (end_sign f) ≡ false → ◌⊑◌ f (at zero_fraction)
    go minus_infinity k' = refl
    go (at q) k' = at-value q.num q.den k'
    go plus_infinity k' = absurd (true≢false k')

pub low_from_below : (e : End) → is_below (end_sign e) ≡ true → ◌⊑◌ e (at zero_fraction)
low_from_below e k = below_is_low e k

pub high_from_above : (e : End) → is_above (end_sign e) ≡ true → ◌⊑◌ (at zero_fraction) e
high_from_above e k = above_is_high e k
