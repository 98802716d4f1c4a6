-- Ends of intervals, and fractions of the code.
use Rattle.std.proofs.Common.{◌≡◌, ℕ, ◌<◌, ◌^◌, refl, ap, sym, ◌∙◌, subst, arith, ℤ, pos, neg_ℤ, ap₂, Option, Some, None}
use mir.Val.{to_z, of_z}
use mir.Syntax.{w128}
use Rattle.std.proofs.Math.Nat.{one-dvd}
use Rattle.std.specs.Int.{IsGcd}
use Rattle.std.specs.Option.{unwrap_or}
use Rattle.dyadic.specs.Fraction.{Fraction, whole, negated}
use Rattle.dyadic.specs.Views.{fraction_of_frac}
use Rattle.dyadic.specs.declared.frac.Frac.{Frac}
use Rattle.dyadic.specs.Lowest.{IsLowest}
use Rattle.dyadic.specs.SmallSteps.{IsSmall}
use Rattle.dyadic.proofs.FracSteps.{small_passed}
use Rattle.declared_box.specs.Interval.{end_or, ended}
use Rattle.declared_box.specs.Views.{end_of, interval_of}

over-one : (n : ℕ) → IsGcd n 1 1
over-one n = (one-dvd n, one-dvd 1, λ d h k. k)

whole-lowest : (n : ℕ) → n < 2 ^ 64 → IsLowest (pos n) (pos 1)
whole-lowest n h = record { positive = omega arith; few_digits = omega (arith, h); few_digits_below = omega arith; in_lowest_terms = over-one n }

pub whole_passed : (n : ℕ) (z : ℤ) → n < 2 ^ 64 → z ≡ pos n → to_z w128 (of_z w128 z) ≡ pos n
whole_passed n z h e = small_passed z (subst IsSmall (sym e) (record { size = omega (arith, h) })) ∙ e

pub whole_lowest : (n : ℕ) (z : ℤ) → n < 2 ^ 64 → z ≡ pos n → IsLowest (to_z w128 (of_z w128 z)) (pos 1)
whole_lowest n z h e = subst (λ y. IsLowest y (pos 1)) (sym (whole_passed n z h e)) (whole-lowest n h)

pub ended_some : (low high : Option Frac) (n : ℕ) (d e : Frac) → fraction_of_frac d ≡ negated (fraction_of_frac e) → fraction_of_frac e ≡ whole (pos n) →
    interval_of (record { low = Some (unwrap_or low d); high = Some (unwrap_or high e) }) ≡ ended (Some n) (interval_of (record { low = low; high = high }))
unfolding negated
ended_some low high n d e f g = ap₂ (λ (l h : Option Fraction). record { low = l; high = h }) (ends low d (whole (neg_ℤ (pos n))) (f ∙ ap (λ (q : Fraction). record { num = neg_ℤ q.num; den = q.den }) g)) (ends high e (whole (pos n)) g)
  where
    ends : (o : Option Frac) (d : Frac) (q : Fraction) → fraction_of_frac d ≡ q → end_of (Some (unwrap_or o d)) ≡ end_or (end_of o) (Some q)
    ends None d q e = ap (λ (x : Fraction). Some x) e
    ends (Some p) d q e = refl

pub two_ends : (l m h j : Frac) → l ≡ m → h ≡ j → interval_of (record { low = Some l; high = Some h }) ≡ interval_of (record { low = Some m; high = Some j })
two_ends l m h j e f = ap₂ (λ (x y : Frac). interval_of (record { low = Some x; high = Some y })) e f
