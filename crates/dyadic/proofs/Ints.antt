-- Products and order of integers.
use Rattle.std.proofs.Common.{◌≡◌, ℕ, ◌+◌, ◌*◌, ◌<◌, ◌≤◌, arith, ap, ◌∙◌, ℤ, pos, neg_ℤ, ◌+ℤ◌, ◌*ℤ◌, ◌≤ℤ◌, ◌<ℤ◌, mul-lt-mul_of_pos_right, mul-le-mul_right, le_of_mul-le-mul_right, nat_abs}
use Rattle.std.proofs.Math.IntN.{*ℤ_comm}
use Rattle.std.proofs.lemmas.Int.{ints}
use borrow.Author.Differences.{up, down, sum_is_lem, product_is, neg_is}

pub *ℤ-le_right : (a b : ℤ) (k : ℕ) → a ≤ℤ b → (a *ℤ pos k) ≤ℤ (b *ℤ pos k)
*ℤ-le_right a b k h =
    let plain : up a + down b ≤ up b + down a = omega (arith, ints) in
    omega (arith, ints, mul-le-mul_right k plain)

pub le_of_*ℤ-le_right : (a b : ℤ) (k : ℕ) → 0 < k → (a *ℤ pos k) ≤ℤ (b *ℤ pos k) → a ≤ℤ b
le_of_*ℤ-le_right a b k p h =
    let plain : (up a + down b) * k ≤ (up b + down a) * k = omega (arith, ints) in
    let less : up a + down b ≤ up b + down a = le_of_mul-le-mul_right plain p in
    omega (arith, ints)

pub *ℤ-lt_right : (a b : ℤ) (k : ℕ) → 0 < k → a <ℤ b → (a *ℤ pos k) <ℤ (b *ℤ pos k)
*ℤ-lt_right a b k p h =
    let plain : up a + down b < up b + down a = omega (arith, ints) in
    omega (arith, ints, mul-lt-mul_of_pos_right plain p)

-- products of inequalities
pub *ℤ-le_by_nonneg : (a b c : ℤ) → pos 0 ≤ℤ c → a ≤ℤ b → (a *ℤ c) ≤ℤ (b *ℤ c)
*ℤ-le_by_nonneg a b (pos k) n h = *ℤ-le_right a b k h
*ℤ-le_by_nonneg a b c n h = absurd (n.le)

pub add-*ℤ : (a b c : ℤ) → (a +ℤ b) *ℤ c ≡ a *ℤ c +ℤ b *ℤ c
add-*ℤ a b c =
    let s = sum_is_lem a b in
    omega (arith, ints, ap (λ x. x * up c) s, ap (λ x. x * down c) s)

pub *ℤ_assoc : (a b c : ℤ) → (a *ℤ b) *ℤ c ≡ a *ℤ (b *ℤ c)
*ℤ_assoc a b c =
    let p = product_is a b in
    let q = product_is b c in
    omega (arith, ints, ap (λ x. x * up c) p.0, ap (λ x. x * up c) p.1, ap (λ x. x * down c) p.0, ap (λ x. x * down c) p.1, ap (λ x. up a * x) q.0, ap (λ x. up a * x) q.1, ap (λ x. down a * x) q.0, ap (λ x. down a * x) q.1)

pub neg-*ℤ : (a b : ℤ) → neg_ℤ a *ℤ b ≡ neg_ℤ (a *ℤ b)
neg-*ℤ a b =
    let n = neg_is a in
    omega (arith, ints, ap (λ x. x * up b) n.0, ap (λ x. x * up b) n.1, ap (λ x. x * down b) n.0, ap (λ x. x * down b) n.1)

pub nat_abs-neg : (a : ℤ) → nat_abs (neg_ℤ a) ≡ nat_abs a
nat_abs-neg a = omega (arith, ints)

pub *ℤ-neg : (a b : ℤ) → a *ℤ neg_ℤ b ≡ neg_ℤ (a *ℤ b)
*ℤ-neg a b = *ℤ_comm a (neg_ℤ b) ∙ neg-*ℤ b a ∙ ap neg_ℤ (*ℤ_comm b a)
