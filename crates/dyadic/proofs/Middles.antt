-- The middle of two numbers.
use Rattle.std.proofs.Common.{◌≡◌, ℕ, ◌*◌, ◌-◌, ◌^◌, ◌<◌, arith, refl, sym, ap, ◌∙◌, subst, lit<, ℤ, pos, neg_ℤ, ◌+ℤ◌, ◌*ℤ◌, ◌≤ℤ◌, ◌<ℤ◌}
use Rattle.std.specs.Int.Signed.{shr_z}
use Rattle.std.proofs.lemmas.Int.{ints}
use Rattle.dyadic.specs.declared.dy.Dy.{Dy}
use Rattle.dyadic.specs.Mantissa.{IsWithinStep}
use Rattle.dyadic.specs.Signed.{IsBelowGrid}
use Rattle.dyadic.specs.Views.{units_of}
use Rattle.dyadic.proofs.Floors.{number_on_grid}
use Rattle.dyadic.proofs.Nearest.{representable_le, pow_split}
use Rattle.dyadic.proofs.StepBounds.{within_shifted, regroup}

-- half a sum is not below the grid
pub not_below_grid : (a b : Dy) → IsBelowGrid (units_of a +ℤ units_of b) 2 → ⊥
not_below_grid a b f =
    let x = representable_le _ (number_on_grid a) in
    let y = representable_le _ (number_on_grid b) in
    let less = f (neg_ℤ (pos (2 ^ 242))) (record { whole = 2 ^ 62; power = 180; few_bits = omega arith; in_range = omega arith; value = refl }) in
    omega (arith, ints, x, y, less)

-- half of a number of steps: the same number of half steps
pub half_steps : (n t : ℤ) (s : ℕ) → 0 < s → IsWithinStep n 1 t s → IsWithinStep n 2 t (s - 1)
half_steps n t s p w = record {
  at_least = subst (λ z. z ≤ℤ n) (turned t) w.at_least;
  below = subst (λ z. n <ℤ z) (turned (t +ℤ pos 1)) w.below;
  many = λ _ few. w.many p (omega (arith, whole, few)) ∙ turned t;
}
  where
    whole : 2 ^ s ≡ 2 ^ (s - 1) * 2 ^ 1
    whole = pow_split 1 s p

    turned : (z : ℤ) → (z *ℤ pos (2 ^ s)) *ℤ pos 1 ≡ (z *ℤ pos (2 ^ (s - 1))) *ℤ pos 2
    turned z = regroup z (2 ^ s) 1 ∙ (let e : 2 ^ s * 1 ≡ 2 ^ (s - 1) * 2 = omega (arith, whole) in ap (λ k. z *ℤ pos k) e) ∙ sym (regroup z (2 ^ (s - 1)) 2)

-- or of a number of units, of which one bit is dropped
pub half_units : (n t : ℤ) → IsWithinStep n 1 t 0 → IsWithinStep n 2 (shr_z t 2) 0
half_units n t w =
    let same : t *ℤ pos 1 ≡ n = omega (arith, ints, w.at_least, w.below) in
    subst (λ z. IsWithinStep z 2 (shr_z t 2) 0) same (within_shifted t 1 0 0 2 (lit< tt) (omega arith) (λ some _. absurd (omega (arith, some))))
