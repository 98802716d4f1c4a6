-- A fraction compared with a number and a margin.
use Rattle.std.proofs.Common.{◌≡◌, ℕ, ◌+◌, ◌-◌, ◌*◌, ◌/◌, ◌%◌, ◌^◌, ◌<◌, ◌≤◌, ◌↔◌, min, arith, sym, ap, ◌∙◌, subst, ⊎_elim, Bool, false, IsTrue, leb, nat_lt, mul-le-mul_right, mul-lt-mul_of_pos_right, div-add-mod', mod-lt, le-div_iff_mul-le}
use Rattle.std.proofs.Math.Nat.{le_of_mul-le-mul_right, mod-eq_of_lt}
use Rattle.std.proofs.lemmas.Nat.{pow_pos, one_shl}
use Rattle.std.proofs.lemmas.Bool.{cases_lt, leb-true, le-leb, true≢false}
use Rattle.std.specs.declared.cmp.Ordering.{Ordering}
use Rattle.std.proofs.lemmas.Bool.Decides.{nat_tests}
use Rattle.std.specs.Ordering.{nat_cmp, is_le, is_ge}
use Rattle.dyadic.specs.Grid.{IsSpelling}
use Rattle.dyadic.specs.Near.{IsUnder, IsInSteps}
use Rattle.dyadic.proofs.Nearest.{pow_le, pow_split}
use Rattle.dyadic.proofs.Quotients.{cmp_same}

-- ---- steps

pub cmp_scaled : (n d size shift : ℕ) → shift < 120 → nat_cmp (n * (1 * 2 ^ (120 - shift) % 2 ^ 128)) (size * d) ≡ nat_cmp (n * 2 ^ 120) (size * 2 ^ shift * d)
cmp_scaled n d size shift h =
    let one : 1 * 2 ^ (120 - shift) % 2 ^ 128 ≡ 2 ^ (120 - shift) = one_shl (120 - shift) 128 (omega arith) in
    let p = pow_pos shift in
    let split : 2 ^ 120 ≡ 2 ^ (120 - shift) * 2 ^ shift = pow_split shift 120 (omega (arith, h)) in
    let left : n * 2 ^ 120 ≡ n * 2 ^ (120 - shift) * 2 ^ shift = omega (arith, ap (λ x. n * x) split) in
    let right : size * 2 ^ shift * d ≡ size * d * 2 ^ shift = omega arith in
    ap (λ x. nat_cmp (n * x) (size * d)) one
    ∙ cmp_same (n * 2 ^ (120 - shift)) (size * d) (n * 2 ^ 120) (size * 2 ^ shift * d)
    (λ l. omega (arith, left, right, mul-lt-mul_of_pos_right l p))
    (λ l. omega (arith, left, right, mul-lt-mul_of_pos_right l p))
    (λ e. omega (arith, left, right, ap (λ x. x * 2 ^ shift) e))

pub steps_of : (odd shift bits k x : ℕ) → x ≡ odd → odd ≤ 2 ^ 62 → shift < 120 → 1 ≤ bits → bits ≤ 60 → k ≡ min shift (120 - bits)
    → IsInSteps (odd * 2 ^ shift) (2 ^ (120 - bits)) (x * 2 ^ (shift - k) % 2 ^ 128) (1 * 2 ^ (120 - bits - k) % 2 ^ 128) k
steps_of odd shift bits k x is few fine some small least =
    let k_shift : k ≤ shift = omega (arith, least) in
    let k_margin : k ≤ 120 - bits = omega (arith, least) in
    let power : 2 ^ (shift - k) ≤ 2 ^ 60 = pow_le (shift - k) 60 (omega (arith, least, fine, small)) in
    let same : x * 2 ^ (shift - k) ≡ odd * 2 ^ (shift - k) = ap (λ n. n * 2 ^ (shift - k)) is in
    let room : x * 2 ^ (shift - k) ≤ 2 ^ 62 * 2 ^ 60 = omega (arith, same, mul-le-mul_right (2 ^ (shift - k)) few, power) in
    let whole : x * 2 ^ (shift - k) % 2 ^ 128 ≡ x * 2 ^ (shift - k) = mod-eq_of_lt (omega (arith, room)) in
    let one : 1 * 2 ^ (120 - bits - k) % 2 ^ 128 ≡ 2 ^ (120 - bits - k) = one_shl (120 - bits - k) 128 (omega (arith, some)) in
    let margin_power : 2 ^ (120 - bits - k) ≤ 2 ^ 119 = pow_le (120 - bits - k) 119 (omega (arith, some)) in
    let split = pow_split k shift k_shift in
    let split_margin = pow_split k (120 - bits) k_margin in
    record {
      fine = omega (arith, k_shift, fine);
      size_is = omega (arith, ap (λ y. y * 2 ^ k) whole, ap (λ y. y * 2 ^ k) same, ap (λ y. odd * y) split);
      margin_is = omega (arith, ap (λ y. y * 2 ^ k) one, split_margin);
      size_room = omega (arith, whole, room);
      margin_room = omega (arith, one, margin_power);
    }

pub le_order : (x y : ℕ) → IsTrue (is_le (nat_cmp x y)) ↔ (x ≤ y)
le_order x y = (λ h. grind (arith, nat_tests, h), λ h. grind (arith, nat_tests, h))

pub ge_order : (x y : ℕ) → IsTrue (is_ge (nat_cmp x y)) ↔ (y ≤ x)
ge_order x y = (λ h. grind (arith, nat_tests, h), λ h. grind (arith, nat_tests, h))

-- ---- tests

pub le_test : (x y : ℕ) → IsTrue (leb x y) ↔ (x ≤ y)
le_test x y = (λ h. leb-true x y h, λ h. le-leb x y h)

pub lt_test : (x y : ℕ) → IsTrue (nat_lt x y) ↔ (x < y)
lt_test x y = (λ h. grind (arith, nat_tests, h), λ h. grind (arith, nat_tests, h))

pub both : {P Q R : Type 0} → P ↔ Q → Q ↔ R → P ↔ R
both f g = (λ p. g.0 (f.0 p), λ r. f.1 (g.1 r))

pub never : {P : Type 0} → ¬ P → IsTrue false ↔ P
never h = (λ e. absurd (true≢false (sym e)), λ p. absurd (h p))

pub always : (b : Bool) {P : Type 0} → IsTrue b → P → IsTrue b ↔ P
always b e p = (λ _. p, λ _. e)

pub le_result : (b : Bool) (o : Ordering) (x y : ℕ) → b ≡ is_le o → o ≡ nat_cmp x y → IsTrue b ↔ (x ≤ y)
le_result b o x y e f = let same : b ≡ is_le (nat_cmp x y) = e ∙ ap is_le f in both (λ h. sym same ∙ h, λ h. same ∙ h) (le_order x y)

pub ge_result : (b : Bool) (o : Ordering) (x y : ℕ) → b ≡ is_ge o → o ≡ nat_cmp x y → IsTrue b ↔ (y ≤ x)
ge_result b o x y e f = let same : b ≡ is_ge (nat_cmp x y) = e ∙ ap is_ge f in both (λ h. sym same ∙ h, λ h. same ∙ h) (ge_order x y)

-- ---- by sign

pub under_by : (p q p' q' : Bool) (n d v e : ℕ) (T : Type 0) → p ≡ p' → q ≡ q' → (T ↔ IsUnder p' q' n d v e) → (T ↔ IsUnder p q n d v e)
under_by p q p' q' n d v e T f g h = subst (λ a. T ↔ IsUnder a q n d v e) (sym f) (subst (λ b. T ↔ IsUnder p' b n d v e) (sym g) h)

-- ---- whole numbers

pub whole_size : (odd shift x : ℕ) → x ≡ odd → IsSpelling odd shift → 120 ≤ shift → (x * 2 ^ (shift - 120) % 2 ^ 128 * 2 ^ 120 ≡ odd * 2 ^ shift) × (0 < x * 2 ^ (shift - 120) % 2 ^ 128)
whole_size odd shift x is s h =
    let split = pow_split 120 shift h in
    let joined : odd * 2 ^ shift ≡ odd * 2 ^ (shift - 120) * 2 ^ 120 = omega (arith, ap (λ n. odd * n) split) in
    let room : odd * 2 ^ (shift - 120) ≤ 2 ^ 122 = omega (arith, joined, s.in_range) in
    let same : x * 2 ^ (shift - 120) ≡ odd * 2 ^ (shift - 120) = ap (λ n. n * 2 ^ (shift - 120)) is in
    let whole : x * 2 ^ (shift - 120) % 2 ^ 128 ≡ x * 2 ^ (shift - 120) = mod-eq_of_lt (omega (arith, same, room)) in
    let some : 1 ≤ odd = ⊎_elim (λ (none : odd < 1). absurd (let z : shift ≡ 0 = s.zero (omega (arith, none)) in omega (arith, z, h))) (λ (k : 1 ≤ odd). k) (cases_lt odd 1) in
    (omega (arith, ap (λ n. n * 2 ^ 120) whole, ap (λ n. n * 2 ^ 120) same, joined), omega (arith, whole, same, mul-le-mul_right (2 ^ (shift - 120)) some, pow_pos (shift - 120)))

-- n / d is w and a rest
pub under_same : (n d w b : ℕ) → 0 < d → n / d ≡ w → (n % d ≤ d / 2 ^ b) ↔ (n * 2 ^ b ≤ (w * 2 ^ b + 1) * d)
under_same n d w b p same =
    let power = pow_pos b in
    let split = div-add-mod' n d in
    let left : n * 2 ^ b ≡ w * d * 2 ^ b + n % d * 2 ^ b = omega (arith, ap (λ x. x * 2 ^ b) split, ap (λ x. x * d * 2 ^ b) same) in (
      λ h. omega (arith, left, (le-div_iff_mul-le {k = 2 ^ b} {x = n % d} {y = d} power).0 h),
      λ h. (le-div_iff_mul-le {k = 2 ^ b} {x = n % d} {y = d} power).1 (omega (arith, left, h)),
    )

two_at_least : (b : ℕ) → 1 ≤ b → 2 ≤ 2 ^ b
two_at_least b h = pow_le 1 b h

pub under_other : (n d w b : ℕ) → 0 < d → 1 ≤ b → ¬ (n / d ≡ w) → (n / d < w) ↔ (n * 2 ^ b ≤ (w * 2 ^ b + 1) * d)
under_other n d w b p some other =
    let split = div-add-mod' n d in
    let rest = mod-lt n p in (
      λ h.
          let step : (n / d + 1) * d ≤ w * d = mul-le-mul_right d (let k : n / d + 1 ≤ w = omega (arith, h) in k) in
          let below : n ≤ w * d = omega (arith, split, rest, step) in
          omega (arith, mul-le-mul_right (2 ^ b) below),
      λ h. ⊎_elim (λ l. l)
          (λ (k : w ≤ n / d).
          let more : w + 1 ≤ n / d = omega (arith, k, other) in
          let step : (w + 1) * d ≤ n / d * d = mul-le-mul_right d more in
          let above : (w + 1) * d ≤ n = omega (arith, split, step) in
          let two : 2 * d ≤ 2 ^ b * d = mul-le-mul_right d (two_at_least b some) in
          absurd (omega (arith, mul-le-mul_right (2 ^ b) above, h, two, p)))
          (cases_lt (n / d) w),
    )

pub over_next : (n d w b : ℕ) → 0 < d → w ≡ n / d + 1 → (d - n % d ≤ d / 2 ^ b) ↔ (w * 2 ^ b * d ≤ n * 2 ^ b + d)
over_next n d w b p next =
    let power = pow_pos b in
    let split = div-add-mod' n d in
    let rest = mod-lt n p in
    let left : n * 2 ^ b ≡ n / d * d * 2 ^ b + n % d * 2 ^ b = ap (λ x. x * 2 ^ b) (sym split) ∙ omega arith in
    let right : w * 2 ^ b * d ≡ n / d * d * 2 ^ b + d * 2 ^ b = omega (arith, ap (λ x. x * 2 ^ b * d) next) in
    let whole : d ≡ d - n % d + n % d = omega (arith, rest) in
    let parts : d * 2 ^ b ≡ (d - n % d) * 2 ^ b + n % d * 2 ^ b = ap (λ x. x * 2 ^ b) whole ∙ omega arith in (
      λ h. omega (arith, left, right, parts, (le-div_iff_mul-le {k = 2 ^ b} {x = d - n % d} {y = d} power).0 h),
      λ h. (le-div_iff_mul-le {k = 2 ^ b} {x = d - n % d} {y = d} power).1 (omega (arith, left, right, parts, h)),
    )

pub over_other : (n d w b : ℕ) → 0 < d → (n / d < w → ¬ (w ≡ n / d + 1)) → (w ≤ n / d) ↔ (w * 2 ^ b * d ≤ n * 2 ^ b + d)
over_other n d w b p other =
    let split = div-add-mod' n d in
    let rest = mod-lt n p in
    let power = pow_pos b in (
      λ h.
          let step : w * d ≤ n / d * d = mul-le-mul_right d h in
          let above : w * d ≤ n = omega (arith, split, step) in
          omega (arith, mul-le-mul_right (2 ^ b) above),
      λ h. ⊎_elim
          (λ (l : n / d < w).
          let more : n / d + 2 ≤ w = omega (arith, l, other l) in
          let step : (n / d + 2) * d ≤ w * d = mul-le-mul_right d more in
          let below : n + 1 + d ≤ w * d = omega (arith, split, rest, step) in
          let one : 1 * d ≤ 2 ^ b * d = mul-le-mul_right d power in
          absurd (omega (arith, mul-le-mul_right (2 ^ b) below, h, one, power)))
          (λ k. k)
          (cases_lt (n / d) w),
    )

-- ---- from whole numbers to units

margin_power : (b : ℕ) → b ≤ 60 → 2 ^ 120 ≡ 2 ^ (120 - b) * 2 ^ b
margin_power b h = pow_split b 120 (omega (arith, h))

pub coarse_under : (n d w v b : ℕ) → w * 2 ^ 120 ≡ v → b ≤ 60 → (n * 2 ^ b ≤ (w * 2 ^ b + 1) * d) ↔ (n * 2 ^ 120 ≤ (v + 2 ^ (120 - b)) * d)
coarse_under n d w v b is h =
    let e = 2 ^ (120 - b) in
    let p = pow_pos (120 - b) in
    let split = margin_power b h in
    let left : n * 2 ^ 120 ≡ n * 2 ^ b * e = omega (arith, ap (λ x. n * x) split) in
    let right : (v + e) * d ≡ (w * 2 ^ b + 1) * d * e = omega (arith, ap (λ x. x * d) is, ap (λ x. w * x * d) split) in
    (λ k. omega (arith, left, right, mul-le-mul_right e k), λ k. le_of_mul-le-mul_right (let j : n * 2 ^ b * e ≤ (w * 2 ^ b + 1) * d * e = omega (arith, left, right, k) in j) p)

pub coarse_over : (n d w v b : ℕ) → w * 2 ^ 120 ≡ v → b ≤ 60 → (w * 2 ^ b * d ≤ n * 2 ^ b + d) ↔ (v * d ≤ n * 2 ^ 120 + 2 ^ (120 - b) * d)
coarse_over n d w v b is h =
    let e = 2 ^ (120 - b) in
    let p = pow_pos (120 - b) in
    let split = margin_power b h in
    let left : v * d ≡ w * 2 ^ b * d * e = omega (arith, ap (λ x. x * d) is, ap (λ x. w * x * d) split) in
    let right : n * 2 ^ 120 + e * d ≡ (n * 2 ^ b + d) * e = omega (arith, ap (λ x. n * x) split) in
    (λ k. omega (arith, left, right, mul-le-mul_right e k), λ k. le_of_mul-le-mul_right (let j : w * 2 ^ b * d * e ≤ (n * 2 ^ b + d) * e = omega (arith, left, right, k) in j) p)

-- a whole number that is not 0 is above every margin
pub coarse_above : (n d w v b : ℕ) → w * 2 ^ 120 ≡ v → 0 < w → 0 < d → 1 ≤ b → b ≤ 60 → n * 2 ^ 120 + v * d ≤ 2 ^ (120 - b) * d → ⊥
coarse_above n d w v b is some p one few h =
    let e = 2 ^ (120 - b) in
    let half : e ≤ 2 ^ 119 = pow_le (120 - b) 119 (omega (arith, one)) in
    let large : 1 * 2 ^ 120 ≤ v = omega (arith, is, mul-le-mul_right (2 ^ 120) some) in
    let less : e + 1 ≤ v = omega (arith, half, large) in
    omega (arith, h, mul-le-mul_right d less, p)

-- ---- from steps to units

pub fine_under : (n d v e size margin shift : ℕ) → IsInSteps v e size margin shift → (n * 2 ^ 120 ≤ (size + margin) * 2 ^ shift * d) ↔ (n * 2 ^ 120 ≤ (v + e) * d)
fine_under n d v e size margin shift s =
    let same : (size + margin) * 2 ^ shift * d ≡ (v + e) * d = omega (arith, ap (λ x. x * d) s.size_is, ap (λ x. x * d) s.margin_is) in
    (λ k. omega (arith, same, k), λ k. omega (arith, same, k))

pub fine_margin : (n d v e size margin shift : ℕ) → IsInSteps v e size margin shift → size ≤ margin → (n * 2 ^ 120 ≤ (margin - size) * 2 ^ shift * d) ↔ (n * 2 ^ 120 + v * d ≤ e * d)
fine_margin n d v e size margin shift s h =
    let whole : margin ≡ margin - size + size = omega (arith, h) in
    let same : (margin - size) * 2 ^ shift * d + v * d ≡ e * d = omega (arith, ap (λ x. x * d) s.size_is, ap (λ x. x * d) s.margin_is, ap (λ x. x * 2 ^ shift * d) whole) in
    (λ k. omega (arith, same, k), λ k. omega (arith, same, k))

pub fine_above : (n d v e size margin shift : ℕ) → IsInSteps v e size margin shift → 0 < d → margin < size → n * 2 ^ 120 + v * d ≤ e * d → ⊥
fine_above n d v e size margin shift s p h k =
    let less : margin * 2 ^ shift < size * 2 ^ shift = mul-lt-mul_of_pos_right h (pow_pos shift) in
    let more : e + 1 ≤ v = omega (arith, less, s.size_is, s.margin_is) in
    omega (arith, k, mul-le-mul_right d more, p)

pub fine_below : (n d v e size margin shift : ℕ) → IsInSteps v e size margin shift → size ≤ margin → v * d ≤ n * 2 ^ 120 + e * d
fine_below n d v e size margin shift s h =
    let less : size * 2 ^ shift ≤ margin * 2 ^ shift = mul-le-mul_right (2 ^ shift) h in
    let more : v ≤ e = omega (arith, less, s.size_is, s.margin_is) in
    omega (arith, mul-le-mul_right d more)

pub fine_size : (n d v e size margin shift : ℕ) → IsInSteps v e size margin shift → margin ≤ size → ((size - margin) * 2 ^ shift * d ≤ n * 2 ^ 120) ↔ (v * d ≤ n * 2 ^ 120 + e * d)
fine_size n d v e size margin shift s h =
    let whole : size ≡ size - margin + margin = omega (arith, h) in
    let same : (size - margin) * 2 ^ shift * d + e * d ≡ v * d = omega (arith, ap (λ x. x * d) s.size_is, ap (λ x. x * d) s.margin_is, ap (λ x. x * 2 ^ shift * d) whole) in
    (λ k. omega (arith, same, k), λ k. omega (arith, same, k))

-- ---- the same as fractions

module _ (n d v b : ℕ) (h : b ≤ 60) where
  abbrev e : ℕ
  e = 2 ^ (120 - b)

  pub scaled_plus : (n * 2 ^ 120 ≤ (v + e) * d) ↔ (n * 2 ^ b * 2 ^ 120 ≤ v * (d * 2 ^ b) + d * 2 ^ 120)
  scaled_plus =
      let split = margin_power b h in
      let right : (v + 2 ^ (120 - b)) * d * 2 ^ b ≡ v * (d * 2 ^ b) + d * 2 ^ 120 = omega (arith, ap (λ x. d * x) split) in
      (λ k. omega (arith, right, mul-le-mul_right (2 ^ b) k), λ k. le_of_mul-le-mul_right (let j : n * 2 ^ 120 * 2 ^ b ≤ (v + 2 ^ (120 - b)) * d * 2 ^ b = omega (arith, right, k) in j) (pow_pos b))

  pub scaled_mixed : (n * 2 ^ 120 + v * d ≤ e * d) ↔ (n * 2 ^ b * 2 ^ 120 + v * (d * 2 ^ b) ≤ d * 2 ^ 120)
  scaled_mixed =
      let split = margin_power b h in
      let right : 2 ^ (120 - b) * d * 2 ^ b ≡ d * 2 ^ 120 = omega (arith, ap (λ x. d * x) split) in
      (λ k. omega (arith, right, mul-le-mul_right (2 ^ b) k), λ k. le_of_mul-le-mul_right (let j : (n * 2 ^ 120 + v * d) * 2 ^ b ≤ 2 ^ (120 - b) * d * 2 ^ b = omega (arith, right, k) in j) (pow_pos b))

  pub scaled_minus : (v * d ≤ n * 2 ^ 120 + e * d) ↔ (v * (d * 2 ^ b) ≤ n * 2 ^ b * 2 ^ 120 + d * 2 ^ 120)
  scaled_minus =
      let split = margin_power b h in
      let right : 2 ^ (120 - b) * d * 2 ^ b ≡ d * 2 ^ 120 = omega (arith, ap (λ x. d * x) split) in
      (λ k. omega (arith, right, mul-le-mul_right (2 ^ b) k), λ k. le_of_mul-le-mul_right (let j : v * d * 2 ^ b ≤ (n * 2 ^ 120 + 2 ^ (120 - b) * d) * 2 ^ b = omega (arith, right, k) in j) (pow_pos b))
