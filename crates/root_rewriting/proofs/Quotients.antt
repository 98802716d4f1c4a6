-- Numbers of many binary zeros, divided by 10^5.
use Rattle.std.proofs.Common.{◌≡◌, ℕ, zero, suc, ◌+◌, ◌-◌, ◌*◌, ◌/◌, ◌%◌, ◌^◌, ◌<◌, ◌≤◌, ap, sym, ◌∙◌, subst, refl, arith}
use Rattle.std.proofs.Math.Nat.{mul_assoc, mul-le-mul, pow-le-pow_right}
use Rattle.std.proofs.lemmas.Nat.{pow-add, pow_pos}
use Rattle.root_rewriting.specs.Short.{IsShort}

-- a quotient and a rest, of numbers of 128 bits
pub record IsDivided (n q r : ℕ) : Type 0 where
  pub fits : q + r / 100000 < 2 ^ 128
  pub whole : (q + r / 100000) * 100000 + r % 100000 ≡ n
  pub some : 0 < q + r / 100000

by_parts : (u v p n : ℕ) → (u * 100000 + v) * p ≡ n → n ≤ 2 ^ 142 → v * p < 2 ^ 128 → 2 ^ 64 ≤ n → IsDivided n (u * p % 2 ^ 128) (v * p % 2 ^ 128)
by_parts u v p n e few small large =
    let sum : u * p * 100000 + v * p ≡ n = omega (arith, e) in
    let q : ℕ = u * p in
    let r : ℕ = v * p in
    let qs : q % 2 ^ 128 ≡ q = omega (arith, sum, few) in
    let rs : r % 2 ^ 128 ≡ r = omega (arith, small) in
    subst (λ (m : ℕ). IsDivided n m (r % 2 ^ 128)) (sym qs) (subst (λ (m : ℕ). IsDivided n q m) (sym rs)
    (record { fits = omega (arith, sum, few); whole = omega (arith, sum); some = omega (arith, sum, large) }))

pub divided_is : (factor power f : ℕ) → IsShort factor power → factor < 2 ^ 64 → 64 < power → f ≡ factor →
    IsDivided (factor * 2 ^ power) (f * 2 ^ 64 % 2 ^ 128 / 100000 * 2 ^ (power - 64) % 2 ^ 128) (f * 2 ^ 64 % 2 ^ 128 % 100000 * 2 ^ (power - 64) % 2 ^ 128)
divided_is zero power f s few long e = absurd (omega (arith, long, s.zero refl))
divided_is (suc m) power f s few long e =
    let p : ℕ = 2 ^ (power - 64) in
    let x : ℕ = f * 2 ^ 64 % 2 ^ 128 in
    let n : ℕ = suc m * 2 ^ power in
    let front : x ≡ suc m * 2 ^ 64 = omega (arith, e, few) in
    let apart : 2 ^ power ≡ 2 ^ 64 * p = ap (λ (k : ℕ). 2 ^ k) (let l : power ≡ 64 + (power - 64) = omega (arith, long) in l) ∙ pow-add 2 64 (power - 64) in
    let all : (x / 100000 * 100000 + x % 100000) * p ≡ n =
    ap (λ (k : ℕ). k * p) (let back : x / 100000 * 100000 + x % 100000 ≡ suc m * 2 ^ 64 = omega (arith, front) in back) ∙ mul_assoc (suc m) (2 ^ 64) p ∙ ap (λ (k : ℕ). suc m * k) (sym apart) in
    let high : p ≤ 2 ^ 78 = pow-le-pow_right {n = 2} (omega arith) {i = power - 64} {j = 78} (omega (arith, s.short)) in
    let rest : x % 100000 * p ≤ 100000 * 2 ^ 78 = mul-le-mul {n₁ = x % 100000} {m₁ = p} {n₂ = 100000} {m₂ = 2 ^ 78} (omega arith) high in
    let one : 2 ^ 64 * 1 ≤ 2 ^ 64 * p = mul-le-mul {n₁ = 2 ^ 64} {m₁ = 1} {n₂ = 2 ^ 64} {m₂ = p} (omega arith) (pow_pos (power - 64)) in
    let large : 1 * 2 ^ power ≤ n = mul-le-mul {n₁ = 1} {m₁ = 2 ^ power} {n₂ = suc m} {m₂ = 2 ^ power} (omega arith) (omega arith) in
    by_parts (x / 100000) (x % 100000) p n all s.in_range (omega (arith, rest)) (omega (arith, one, large, apart))
