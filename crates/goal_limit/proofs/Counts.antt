-- The size of a limit in steps of 2^-bits, and its constants.
use Rattle.std.proofs.Common.{◌≡◌, ℕ, ◌-◌, ◌*◌, ◌/◌, ◌^◌, ◌<◌, ◌≤◌, Bool, true, false, not, IsTrue, Option, Some, None, refl, ap, sym, ◌∙◌, subst, arith, true≢false, nat_eq, nat_le, ℤ, pos, negsuc, neg_ℤ, ◌*ℤ◌, ◌<ℤ◌, nat_abs}
use Rattle.std.specs.Prelude.{◌↔◌}
use Rattle.std.proofs.Math.Nat.{one-dvd, mul-div_cancel, mul-le-mul, eq_of_mul-eq-mul_right}
use Rattle.std.proofs.lemmas.Bool.{eq-eqb, le-leb}
use Rattle.std.proofs.lemmas.Nat.{pow_pos}
use Rattle.std.proofs.lemmas.Int.{ints, to_z-of_z}
use Rattle.std.specs.Int.{IsGcd}
use mir.Val.{to_z, of_z}
use mir.Syntax.{w64, w128}
use lib.Signed.{mag}
use Rattle.dyadic.specs.Fraction.{Fraction, whole}
use Rattle.dyadic.specs.Rounding.{Dyadic}
use Rattle.dyadic.specs.Lowest.{IsLowest}
use Rattle.dyadic.specs.Signed.{signed_of}
use Rattle.dyadic.proofs.Equal.{both_pass}
use Rattle.dyadic.proofs.FracSteps.{small_passed}
use Rattle.dyadic.proofs.Nearest.{pow_le, pow_split}
use Rattle.dyadic.proofs.Unique.{size_in_steps}
use Rattle.cert_model.specs.Limited.{limit_size, opposite, offset_of}
use Rattle.goal_limit.specs.Made.{IsCount, is_multiple}

-- ---- whole numbers as fractions

over-one : (n : ℕ) → IsGcd n 1 1
over-one n = (one-dvd n, one-dvd 1, λ d h k. k)

pub whole_lowest : (z : ℤ) → nat_abs z ≤ 10 ^ 36 → IsLowest (to_z w128 (of_z w128 z)) (pos 1)
whole_lowest z h = subst (λ y. IsLowest y (pos 1)) (sym (small_passed z (record { size = h })))
    (record { positive = omega arith; few_digits = h; few_digits_below = omega arith; in_lowest_terms = over-one (nat_abs z) })

pub small_power : (k : ℕ) → k ≤ 119 → 2 ^ k ≤ 2 ^ 119
small_power k h = pow_le k 119 h

-- ---- counts

-- a size above 0 that is moved up by 120 bits
pub far_up : (size up : ℕ) → 0 < size → 120 ≤ up → IsCount (size * 2 ^ up) 1 None
far_up size up some h n e =
    let large : 1 * 2 ^ 120 ≤ size * 2 ^ up = mul-le-mul some (pow_le 120 up h) in
    omega (arith, large, e)

pub count_lowered : (m : ℤ) (size shift step : ℕ) (r : Option ℕ) → size ≡ nat_abs m → shift < step → IsCount size (2 ^ (step - shift)) r → IsCount (nat_abs (m *ℤ pos (2 ^ shift))) (2 ^ step) r
count_lowered m size shift step None e h c = λ n i.
    let same : n * 2 ^ (step - shift) * 2 ^ shift ≡ size * 2 ^ shift = omega (arith, i, size_in_steps m shift, ap (λ x. n * x) (pow_split shift step (omega (arith, h))), ap (λ x. x * 2 ^ shift) e) in
    c n (eq_of_mul-eq-mul_right (2 ^ shift) (pow_pos shift) (n * 2 ^ (step - shift)) size same)
count_lowered m size shift step (Some n) e h c =
    (omega (arith, ap (λ x. x * 2 ^ shift) c.0, size_in_steps m shift, ap (λ x. n * x) (pow_split shift step (omega (arith, h))), ap (λ x. x * 2 ^ shift) e), c.1)

pub count_raised : (m : ℤ) (size shift step : ℕ) (r : Option ℕ) → size ≡ nat_abs m → step ≤ shift → IsCount (size * 2 ^ (shift - step)) 1 r → IsCount (nat_abs (m *ℤ pos (2 ^ shift))) (2 ^ step) r
count_raised m size shift step None e h c = λ n i.
    let same : n * 2 ^ step ≡ size * 2 ^ (shift - step) * 2 ^ step = omega (arith, i, size_in_steps m shift, ap (λ x. size * x) (pow_split step shift h), ap (λ x. x * 2 ^ shift) e) in
    let n-is : n ≡ size * 2 ^ (shift - step) = eq_of_mul-eq-mul_right (2 ^ step) (pow_pos step) n (size * 2 ^ (shift - step)) same in
    c n (omega (arith, n-is))
count_raised m size shift step (Some n) e h c =
    (omega (arith, ap (λ x. x * 2 ^ step) c.0, size_in_steps m shift, ap (λ x. size * x) (pow_split step shift h), ap (λ x. x * 2 ^ shift) e), c.1)

-- ---- what is added to the goal

by-sign : (u : ℤ) (minus : Bool) (m n : ℕ) → IsTrue minus ↔ (u <ℤ pos 0) → m ≡ n → signed_of (not minus) n ≡ opposite m u
by-sign (pos v) true m n h e = absurd (let l = h.0 refl in omega (arith, ints, l))
by-sign (pos v) false m n h e = ap (λ x. neg_ℤ (pos x)) (sym e)
by-sign (negsuc v) true m n h e = ap pos (sym e)
by-sign (negsuc v) false m n h e = absurd (true≢false (sym (h.1 (omega (arith, ints)))))

pub offset_is : (k n : ℕ) (d : Dyadic) (minus : Bool) (q : Fraction) → IsTrue minus ↔ (d.units <ℤ pos 0) → IsCount (nat_abs d.units) (2 ^ (120 - k)) (Some n) → q ≡ whole (signed_of (not minus) n) →
    (is_multiple k d ≡ true) × (q ≡ offset_of k d)
offset_is k n d minus q h c e =
    let size : limit_size k d ≡ n = ap (λ x. x / 2 ^ (120 - k)) (sym c.0) ∙ mul-div_cancel n (pow_pos (120 - k)) in (
      both_pass (nat_eq (limit_size k d * 2 ^ (120 - k)) (nat_abs d.units)) (nat_le (limit_size k d) (10 ^ 36))
          (eq-eqb (limit_size k d * 2 ^ (120 - k)) (nat_abs d.units) (ap (λ x. x * 2 ^ (120 - k)) size ∙ c.0))
          (le-leb (limit_size k d) (10 ^ 36) (subst (λ x. x ≤ 10 ^ 36) (sym size) c.1)),
      e ∙ ap whole (by-sign d.units minus (limit_size k d) n h size),
    )

-- the size of a mantissa, as the code has it
pub mantissa_size : (n : ℕ) (m z : ℤ) → mag m < 2 ^ 63 → n ≡ nat_abs (to_z w64 (of_z w64 m)) → m ≡ z → n ≡ nat_abs z
mantissa_size n m z h e f = e ∙ ap nat_abs (to_z-of_z w64 m (record { sfits = h }) ∙ f)
