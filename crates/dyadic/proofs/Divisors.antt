-- Quotients of sizes.
use Rattle.std.proofs.Common.{◌≡◌, ℕ, ◌+◌, ◌*◌, ◌-◌, ◌%◌, ◌^◌, ◌<◌, ◌≤◌, arith, ap, ◌∙◌, subst, mul-pos, mul-le-mul_right, mul-lt-mul_of_pos_right, lit<}
use Rattle.std.proofs.Math.Nat.{mod-eq_of_lt, mul-le-mul}
use Rattle.std.proofs.lemmas.Nat.{pow-add, pow_pos}
use Rattle.dyadic.specs.Grid.{IsTight}
use Rattle.dyadic.proofs.Nearest.{pow_split, pow_le}
use Rattle.dyadic.proofs.Tight.{tight_scale, tight_from}

pub factor_positive : (x k : ℕ) → 0 < x * k → 0 < x
factor_positive x k q = grind arith

pub room : (odd e : ℕ) → odd ≤ 2 ^ 62 → e < 64 → odd * 2 ^ e < 2 ^ 126
room odd e few h = let power : 2 ^ e ≤ 2 ^ 63 = pow_le e 63 (omega arith) in omega (arith, mul-le-mul few power)

-- the divisor's step is not above the dividend's highest
pub tight_near : (x i y j low high s : ℕ) → j ≤ i + 120 → IsTight (x * 2 ^ (i + 120 - j)) y low high s → IsTight (x * 2 ^ i * 2 ^ 120) (y * 2 ^ j) low high s
tight_near x i y j low high s h t =
    let scaled = tight_scale (x * 2 ^ (i + 120 - j)) y low high s (2 ^ j) (pow_pos j) t in
    let split = pow_split j (i + 120) h in
    let same : x * 2 ^ (i + 120 - j) * 2 ^ j ≡ x * 2 ^ i * 2 ^ 120 = omega (arith, ap (λ n. x * n) split, ap (λ n. x * n) (pow-add 2 i 120)) in
    subst (λ n. IsTight n (y * 2 ^ j) low high s) same scaled

-- it is above it, by few bits
pub tight_far : (x i y j low high s : ℕ) → y ≤ 2 ^ 62 → i + 120 < j → j - (i + 120) < 64 → IsTight (x * 2 ^ 0) (y * 2 ^ (j - (i + 120)) % 2 ^ 128) low high s → IsTight (x * 2 ^ i * 2 ^ 120) (y * 2 ^ j) low high s
tight_far x i y j low high s few h near t =
    let e = j - (i + 120) in
    let whole : y * 2 ^ e % 2 ^ 128 ≡ y * 2 ^ e = mod-eq_of_lt (let k = room y e few near in omega (arith, k)) in
    let scaled = tight_scale (x * 2 ^ 0) (y * 2 ^ e) low high s (2 ^ (i + 120)) (pow_pos (i + 120)) (subst (λ n. IsTight (x * 2 ^ 0) n low high s) whole t) in
    let split = pow_split (i + 120) j (omega arith) in
    let above : x * 2 ^ 0 * 2 ^ (i + 120) ≡ x * 2 ^ i * 2 ^ 120 = omega (arith, ap (λ n. x * n) (pow-add 2 i 120)) in
    let below : y * 2 ^ e * 2 ^ (i + 120) ≡ y * 2 ^ j = omega (arith, ap (λ n. y * n) split) in
    subst (λ n. IsTight n (y * 2 ^ j) low high s) above (subst (λ n. IsTight (x * 2 ^ 0 * 2 ^ (i + 120)) n low high s) below scaled)

-- or by many: the quotient is below one unit
pub tight_tiny : (x i y j high : ℕ) → x < 2 ^ 64 → 0 < y → i + 120 + 64 ≤ j → (x ≡ 0 → high ≡ 0) → (0 < x → high ≡ 1) → IsTight (x * 2 ^ i * 2 ^ 120) (y * 2 ^ j) 0 high 0
tight_tiny x i y j high few p h no_size some =
    let power : 2 ^ (i + 120 + 64) ≤ 2 ^ j = pow_le (i + 120 + 64) j h in
    let joined : 2 ^ (i + 120 + 64) ≡ 2 ^ i * 2 ^ 120 * 2 ^ 64 = pow-add 2 (i + 120) 64 ∙ ap (λ n. n * 2 ^ 64) (pow-add 2 i 120) in
    let d_large : 1 * 2 ^ j ≤ y * 2 ^ j = mul-le-mul_right (2 ^ j) p in
    let small : x * (2 ^ i * 2 ^ 120) < 2 ^ 64 * (2 ^ i * 2 ^ 120) = mul-lt-mul_of_pos_right few (mul-pos (pow_pos i) (lit< tt)) in
    tight_from (x * 2 ^ i * 2 ^ 120) (y * 2 ^ j) 0 high 0 (x * 2 ^ i * 2 ^ 120) (mul-pos p (pow_pos j)) (omega arith) (omega (arith, small, joined, power, d_large))
    (λ _ none. absurd (omega arith))
    (λ none. no_size (zero_factor x (2 ^ i) (pow_pos i) none))
    (λ more. some (pos_factor x (2 ^ i) more))
  where
    zero_factor : (x k : ℕ) → 0 < k → x * k * 2 ^ 120 ≡ 0 → x ≡ 0
    zero_factor x k q e = grind arith

    pos_factor : (x k : ℕ) → 0 < x * k * 2 ^ 120 → 0 < x
    pos_factor x k q = grind arith
