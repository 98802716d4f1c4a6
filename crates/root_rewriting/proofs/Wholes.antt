-- Whole numbers as fractions of the code.
use Rattle.std.proofs.Common.{◌≡◌, ℕ, ◌<◌, ◌^◌, sym, ◌∙◌, subst, arith, ℤ, pos}
use mir.Val.{to_z, of_z}
use mir.Syntax.{w128}
use Rattle.std.proofs.Math.Nat.{one-dvd}
use Rattle.std.specs.Int.{IsGcd}
use Rattle.dyadic.specs.Lowest.{IsLowest}
use Rattle.dyadic.specs.SmallSteps.{IsSmall}
use Rattle.dyadic.proofs.FracSteps.{small_passed}

over-one : (n : ℕ) → IsGcd n 1 1
over-one n = (one-dvd n, one-dvd 1, λ d h k. k)

whole-lowest : (n : ℕ) → n < 2 ^ 64 → IsLowest (pos n) (pos 1)
whole-lowest n h = record { positive = omega arith; few_digits = omega (arith, h); few_digits_below = omega arith; in_lowest_terms = over-one n }

pub whole_passed : (n : ℕ) (z : ℤ) → n < 2 ^ 64 → z ≡ pos n → to_z w128 (of_z w128 z) ≡ pos n
whole_passed n z h e = small_passed z (subst IsSmall (sym e) (record { size = omega (arith, h) })) ∙ e

pub whole_lowest : (n : ℕ) (z : ℤ) → n < 2 ^ 64 → z ≡ pos n → IsLowest (to_z w128 (of_z w128 z)) (pos 1)
whole_lowest n z h e = subst (λ y. IsLowest y (pos 1)) (sym (whole_passed n z h e)) (whole-lowest n h)
