-- Shifts of integers to the right, which round down, and to the left.
use Rattle.std.proofs.Common.{◌≡◌, ℕ, suc, ◌+◌, ◌*◌, ◌-◌, ◌/◌, ◌%◌, ◌^◌, ◌<◌, ◌≤◌, min, max, arith, sym, ap, ap₂, ◌∙◌, ⊎_elim, mul-le-mul_right, mul-lt-mul_of_pos_right, ℤ, pos, negsuc, ◌+ℤ◌, ◌*ℤ◌, ◌≤ℤ◌, ◌<ℤ◌, nat_abs}
use Rattle.std.proofs.Math.Nat.{mod-lt, mod-eq_of_lt, div-eq_of_lt, lt_of_mul-lt-mul_right}
use Rattle.std.specs.Int.{leading_zeros, w64, w128}
use Rattle.std.specs.Int.Signed.{shr_z, mag_shr}
use Rattle.std.proofs.lemmas.Int.{ints, to_z-of_z, to_z_pos, unsigned_abs-mul, fits_signed_from_abs}
use Rattle.std.specs.Int.RustNames.{FitsSigned}
use Rattle.std.proofs.lemmas.Nat.{pow_pos, pow-add, div-add-mod', leading_top, leading_length}
use Rattle.std.proofs.lemmas.Bool.{cases_lt}
use lib.Signed.{mag}
use mir.Val.{to_z, of_z, SFits}
use Rattle.dyadic.proofs.Nearest.{pow_le}

-- what is left of m is a floor of its part by k
pub shr_below : (m : ℤ) (k : ℕ) → 0 < k → (shr_z m k *ℤ pos k) ≤ℤ m
shr_below (pos a) k p = omega (arith, ints, div-add-mod' a k)
shr_below (negsuc a) k p = omega (arith, ints, div-add-mod' a k, mod-lt a p)

pub shr_above : (m : ℤ) (k : ℕ) → 0 < k → m <ℤ ((shr_z m k *ℤ pos k) +ℤ pos k)
shr_above (pos a) k p = omega (arith, ints, div-add-mod' a k, mod-lt a p)
shr_above (negsuc a) k p = omega (arith, ints, div-add-mod' a k, mod-lt a p)

-- what the code's shift gives
pub shifted : (m : ℤ) (k : ℕ) → mag m < 2 ^ 63 → to_z w64 (of_z w64 (shr_z (to_z w64 (of_z w64 m)) k)) ≡ shr_z m k
shifted m k h =
    ap (λ z. to_z w64 (of_z w64 (shr_z z k))) (to_z-of_z w64 m (record { sfits = h }))
    ∙ to_z-of_z w64 (shr_z m k) (record { sfits = let e = mag_shr m k in omega (arith, e, h) })

-- the same of a product
pub shifted_wide : (m : ℤ) (k : ℕ) → SFits w128 m → to_z w128 (of_z w128 (shr_z (to_z w128 (of_z w128 m)) k)) ≡ shr_z m k
shifted_wide m k f =
    ap (λ z. to_z w128 (of_z w128 (shr_z z k))) (to_z-of_z w128 m f)
    ∙ to_z-of_z w128 (shr_z m k) (record { sfits = let e = mag_shr m k in let g = f.sfits in omega (arith, e, g) })

pub shr_room : (m : ℤ) (k c : ℕ) → 0 < k → nat_abs m + k ≤ c * k → nat_abs (shr_z m k) < c
shr_room (pos a) k c p h = lt_of_mul-lt-mul_right k (let e : a / k * k < c * k = omega (arith, h, div-add-mod' a k, p) in e)
shr_room (negsuc a) k c p h =
    let l : a / k + 1 < c = lt_of_mul-lt-mul_right k (let e : (a / k + 1) * k < c * k = omega (arith, h, div-add-mod' a k, p) in e) in
    omega (arith, l)

-- a shift by more bits than there are leaves the sign
shr_none : (m : ℤ) (i j : ℕ) → nat_abs m < 2 ^ i → i ≤ j → shr_z m (2 ^ j) ≡ shr_z m (2 ^ i)
shr_none (pos a) i j h less = let p = pow_le i j less in ap pos (div-eq_of_lt (omega (arith, h, p)) ∙ sym (div-eq_of_lt h))
shr_none (negsuc a) i j h less = let p = pow_le i j less in ap negsuc (div-eq_of_lt (omega (arith, h, p)) ∙ sym (div-eq_of_lt (omega (arith, h))))

pub shr_capped : (m : ℤ) (by r : ℕ) → nat_abs m < 2 ^ 62 → r ≡ min by 63 → shr_z m (2 ^ r) ≡ shr_z m (2 ^ by)
shr_capped m by r h e = ⊎_elim
    (λ (low : by < 63). let f : r ≡ by = omega (arith, e) in ap (λ k. shr_z m (2 ^ k)) f)
    (λ (high : 63 ≤ by). let f : r ≡ 63 = omega (arith, e) in ap (λ k. shr_z m (2 ^ k)) f ∙ sym (shr_none m 63 by (omega (arith, h)) high))
    (cases_lt by 63)

-- a number that is moved up
power_value : (up : ℕ) → up ≤ 61 → to_z w64 (1 * 2 ^ up % 2 ^ 64) ≡ pos (2 ^ up)
power_value up h =
    let few : 2 ^ up ≤ 2 ^ 61 = pow_le up 61 h in
    let whole : 1 * 2 ^ up % 2 ^ 64 ≡ 1 * 2 ^ up = mod-eq_of_lt (omega (arith, few)) in
    let one : 1 * 2 ^ up ≡ 2 ^ up = omega arith in
    ap (to_z w64) (whole ∙ one) ∙ to_z_pos w64 (2 ^ up) (omega (arith, few))

pub moved_value : (m : ℤ) (up : ℕ) → mag m < 2 ^ 63 → up ≤ 61 → to_z w64 (of_z w64 m) *ℤ to_z w64 (1 * 2 ^ up % 2 ^ 64) ≡ m *ℤ pos (2 ^ up)
moved_value m up h short = ap₂ (λ (x : ℤ) (y : ℤ). x *ℤ y) (to_z-of_z w64 m (record { sfits = h })) (power_value up short)

pub moved_fits : (m : ℤ) (up : ℕ) → nat_abs m * 2 ^ up < 2 ^ 62 → FitsSigned w64 (m *ℤ pos (2 ^ up))
moved_fits m up h = fits_signed_from_abs w64 (m *ℤ pos (2 ^ up)) (let e = unsigned_abs-mul m (pos (2 ^ up)) in omega (arith, e, h))

-- ---- an odd part that is moved up to 62 bits

pub two_spare : (odd : ℕ) → 0 < odd → odd < 2 ^ 62 → (2 ≤ leading_zeros w64 odd) × (leading_zeros w64 odd ≤ 63)
two_spare odd p h =
    let top = leading_top 64 odd p (omega (arith, h)) in
    let low : top.0 < 62 = ⊎_elim (λ (l : top.0 < 62). l) (λ (g : 62 ≤ top.0). absurd (let k : 2 ^ 62 ≤ 2 ^ top.0 = pow_le 62 top.0 g in omega (arith, k, top.2, h))) (cases_lt top.0 62) in
    (omega (arith, top.1, low), omega (arith, top.1))

pub spare_few : (odd up : ℕ) → 0 < odd → odd < 2 ^ 62 → up ≤ leading_zeros w64 odd - 2 → odd * 2 ^ up < 2 ^ 62
spare_few odd up p h less =
    let top = leading_top 64 odd p (omega (arith, h)) in
    let two = two_spare odd p h in
    let power : 2 ^ (suc top.0 + up) ≤ 2 ^ 62 = pow_le (suc top.0 + up) 62 (omega (arith, top.1, two.0)) in
    omega (arith, mul-lt-mul_of_pos_right top.3 (pow_pos up), pow-add 2 (suc top.0) up, power)

pub spare_many : (odd up : ℕ) → 0 < odd → odd < 2 ^ 62 → leading_zeros w64 odd - 2 ≤ up → 2 ^ 61 ≤ odd * 2 ^ up
spare_many odd up p h more =
    let top = leading_top 64 odd p (omega (arith, h)) in
    let power : 2 ^ 61 ≤ 2 ^ (top.0 + up) = pow_le 61 (top.0 + up) (omega (arith, top.1)) in
    omega (arith, mul-le-mul_right (2 ^ up) top.2, pow-add 2 top.0 up, power)

-- ---- how many bits of a product are dropped

pub dropped_few : (n low r : ℕ) → n < 2 ^ 128 → r ≡ max (128 - leading_zeros w128 n - 62) low → n < 2 ^ 62 * 2 ^ r
dropped_few n low r h e =
    let length = leading_length 128 n h in
    let m = length.0 in
    let power : 2 ^ m ≤ 2 ^ (62 + r) = pow_le m (62 + r) (omega (arith, e, length.1)) in
    omega (arith, length.2, power, pow-add 2 62 r)

pub dropped_many : (n low r : ℕ) → n < 2 ^ 128 → r ≡ max (128 - leading_zeros w128 n - 62) low → low < r → 2 ^ 61 * 2 ^ r ≤ n
dropped_many n low r h e more =
    let length = leading_length 128 n h in
    let m = length.0 in
    let whole : m ≡ 62 + r = omega (arith, e, length.1, more) in
    let power : 2 ^ m ≡ 2 ^ (62 + r) = ap (λ i. 2 ^ i) whole in
    omega (arith, length.3, power, pow-add 2 62 r)
