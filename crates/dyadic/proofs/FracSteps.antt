-- The steps on fractions.
use Rattle.std.proofs.Common.{◌≡◌, ◌*◌, ◌^◌, ◌<◌, ◌≤◌, arith, sym, subst, ℤ, pos, negsuc, neg_ℤ, ◌-ℤ◌, ◌*ℤ◌, ◌<ℤ◌, mul-pos}
use Rattle.std.specs.Int.RustNames.{unsigned_abs}
use Rattle.std.specs.Int.{IsGcd}
use Rattle.std.proofs.lemmas.Int.{ints, to_z-of_z}
use lib.Signed.{mag}
use mir.Val.{to_z, of_z}
use mir.Syntax.{w128}
use Rattle.dyadic.proofs.Ints.{nat_abs-neg}
use Rattle.dyadic.specs.declared.frac.Frac.{Frac}
use Rattle.dyadic.specs.Lowest.{IsLowest}
use Rattle.dyadic.specs.SmallSteps.{IsSmall}

-- a small number that is passed is itself
pub small_passed : (z : ℤ) → IsSmall z → to_z w128 (of_z w128 z) ≡ z
small_passed z s = to_z-of_z w128 z (record { sfits = low z s.size })
  where
    low : (z : ℤ) → unsigned_abs z ≤ 10 ^ 36 → mag z < 2 ^ 127
    low (pos n) h = omega (arith, h)
    low (negsuc n) h = omega (arith, h)

pub n_passed : (f : Frac) → to_z w128 (of_z w128 f.n) ≡ f.n
n_passed f = small_passed f.n (record { size = f.lowest.few_digits })

pub d_passed : (f : Frac) → to_z w128 (of_z w128 f.d) ≡ f.d
d_passed f = small_passed f.d (record { size = f.lowest.few_digits_below })

pub whole_size : (d : ℤ) → pos 0 <ℤ d → pos (unsigned_abs d) ≡ d
whole_size d h = omega (arith, ints)

pub positive_product : (a b : ℤ) → pos 0 <ℤ a → pos 0 <ℤ b → pos 0 <ℤ (a *ℤ b)
positive_product (pos a) (pos b) h k = let p : 0 < a = omega (arith, ints) in let q : 0 < b = omega (arith, ints) in let r : 0 < a * b = mul-pos p q in omega (arith, ints)
positive_product (pos a) (negsuc b) h k = absurd k.lt
positive_product (negsuc a) b h k = absurd h.lt

pub opposite_fraction : (n d r e : ℤ) → IsLowest n d → r ≡ neg_ℤ n → e ≡ d → IsLowest r e
opposite_fraction n d r e f rs es =
    subst (λ x. IsLowest x e) (sym rs) (subst (λ y. IsLowest (neg_ℤ n) y) (sym es) (record {
      positive = f.positive;
      few_digits = subst (λ x. x ≤ 10 ^ 36) (sym (nat_abs-neg n)) f.few_digits;
      few_digits_below = f.few_digits_below;
      in_lowest_terms = subst (λ x. IsGcd x (unsigned_abs d) 1) (sym (nat_abs-neg n)) f.in_lowest_terms;
    }))

pub negated : (z : ℤ) → pos 0 -ℤ z ≡ neg_ℤ z
negated z = omega (arith, ints)

pub small_opposite : (f : Frac) → IsSmall (neg_ℤ f.n)
small_opposite f = record { size = subst (λ x. x ≤ 10 ^ 36) (sym (nat_abs-neg f.n)) f.lowest.few_digits }
