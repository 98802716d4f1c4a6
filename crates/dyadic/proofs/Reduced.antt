-- Fractions in lowest terms.
use Rattle.std.proofs.Common.{◌≡◌, ℕ, ◌*◌, ◌/◌, ◌^◌, ◌%◌, ◌<◌, ◌≤◌, zero, suc, arith, refl, sym, ap, ◌∙◌, subst, ℤ, pos, negsuc, ◌<ℤ◌, Bool, true, false, ltb}
use Rattle.std.proofs.Math.Nat.{div-mul_cancel, dvd-mul_right, dvd_of_mul-dvd-mul_right, mul-dvd-mul_right, pos_of_dvd_of_pos, div-le_self, one-dvd, one-mul, mod-lt, zero-div}
use Prim.Native.Nat.{◌∣◌}
use Rattle.std.specs.Int.{IsGcd}
use Rattle.std.specs.Int.RustNames.{unsigned_abs, int_lt}
use Rattle.std.proofs.lemmas.Int.{ints, to_z-of_z}
use lib.Signed.{mag, quot_z}
use Rattle.std.proofs.lemmas.Nat.Gcd.{IsGcd-from_zero, IsGcd-from_mod, same_from_IsGcd}
use mir.Val.{to_z, of_z}
use mir.Syntax.{w128}
use Rattle.std.proofs.lemmas.Bool.Decides.{nat_tests}
use Rattle.dyadic.specs.Fraction.{Fraction}
use Rattle.dyadic.specs.Lowest.{IsLowest, gcd_within, gcd, divided, reduced}
use Rattle.dyadic.specs.Signed.{signed_of}

pub gcd_positive : (a b g : ℕ) → 0 < b → IsGcd a b g → 0 < g
gcd_positive a b g p h = pos_of_dvd_of_pos h.1 p

-- what is left of two numbers by their greatest common divisor has none
pub lowest_terms : (a b g : ℕ) → 0 < g → IsGcd a b g → IsGcd (a / g) (b / g) 1
lowest_terms a b g p h = (
  one-dvd _,
  one-dvd _,
  λ e ea eb.
      let left : e * g ∣ a = subst (λ n. e * g ∣ n) (div-mul_cancel g h.0) (mul-dvd-mul_right e ea g) in
      let right : e * g ∣ b = subst (λ n. e * g ∣ n) (div-mul_cancel g h.1) (mul-dvd-mul_right e eb g) in
      let both : e * g ∣ 1 * g = subst (λ n. e * g ∣ n) (sym (one-mul g)) (h.2 (e * g) left right) in
      dvd_of_mul-dvd-mul_right e p both,
)

pub not_below_zero : (k : ℕ) → ltb k 0 ≡ false
not_below_zero k = grind (arith, nat_tests)

pub sign_and_size : (n : ℤ) → signed_of (int_lt n (pos 0)) (unsigned_abs n) ≡ n
sign_and_size (pos k) = ap (λ b. signed_of b k) (not_below_zero k)
sign_and_size (negsuc k) = refl

pub size_of_signed : (s : Bool) (k : ℕ) → unsigned_abs (signed_of s k) ≡ k
size_of_signed true k = omega (arith, ints)
size_of_signed false k = refl

pub IsGcd-within : (k a b : ℕ) → b < k → IsGcd a b (gcd_within k a b)
IsGcd-within zero a b h = absurd (omega arith)
IsGcd-within (suc k) a zero h = IsGcd-from_zero a zero refl
IsGcd-within (suc k) a (suc b) h = IsGcd-from_mod a (suc b) (gcd_within k (suc b) (a % suc b)) (IsGcd-within k (suc b) (a % suc b) (omega (arith, mod-lt a {m = suc b} (omega arith))))

pub IsGcd-gcd : (a b : ℕ) → IsGcd a b (gcd a b)
IsGcd-gcd a b = IsGcd-within (suc b) a b (omega arith)

quot_signed : (s : Bool) (n g : ℕ) → quot_z (signed_of s n) (pos g) ≡ signed_of s (n / g)
quot_signed false n g = refl
quot_signed true zero g = ap pos (zero-div g) ∙ ap (λ m. signed_of true m) (sym (zero-div g))
quot_signed true (suc n) g = refl

-- the parts divided by their greatest common divisor
pub reduced_parts : (s : Bool) (n d g : ℕ) (r e : ℤ) → 0 < d → n ≤ 10 ^ 36 → d ≤ 10 ^ 36 → IsGcd n d g → r ≡ signed_of s (n / g) → e ≡ pos (d / g)
    → IsLowest r e × ((let q : Fraction = record { num = r; den = unsigned_abs e } in q) ≡ reduced (record { num = signed_of s n; den = d }))
reduced_parts s n d g r e p few few_below h rs es =
    let some : 0 < g = gcd_positive n d g p h in
    let size : unsigned_abs r ≡ n / g = ap unsigned_abs rs ∙ size_of_signed s (n / g) in
    let below : unsigned_abs e ≡ d / g = ap unsigned_abs es in
    let back : d / g * g ≡ d = div-mul_cancel g h.1 in
    let positive : 0 < d / g = pos_of_dvd_of_pos (subst (λ n. d / g ∣ n) back (dvd-mul_right (d / g) g)) p in
    let same : g ≡ gcd (unsigned_abs (signed_of s n)) d = same_from_IsGcd n d g (gcd n d) h (IsGcd-gcd n d) ∙ ap (λ x. gcd x d) (sym (size_of_signed s n)) in (
      record {
        positive = subst (λ z. pos 0 <ℤ z) (sym es) (omega (arith, ints));
        few_digits = omega (arith, size, div-le_self n g, few);
        few_digits_below = omega (arith, below, div-le_self d g, few_below);
        in_lowest_terms = subst (λ x. IsGcd x (unsigned_abs e) 1) (sym size) (subst (λ y. IsGcd (n / g) y 1) (sym below) (lowest_terms n d g some h));
      },
      ap (λ z. record { num = z; den = unsigned_abs e }) (rs ∙ sym (quot_signed s n g)) ∙ ap (λ z. record { num = quot_z (signed_of s n) (pos g); den = z }) below
          ∙ ap (λ k. divided (record { num = signed_of s n; den = d }) k) same,
    )

-- a signed number that is passed is itself
pub passed : (z : ℤ) → mag z < 2 ^ 127 → to_z w128 (of_z w128 z) ≡ z
passed z h = to_z-of_z w128 z (record { sfits = h })
