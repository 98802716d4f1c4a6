-- What the code's sums and products leave lies within one step.
use Rattle.std.proofs.Common.{◌≡◌, ℕ, ◌+◌, ◌*◌, ◌^◌, ◌<◌, ◌≤◌, arith, sym, ap, ◌∙◌, subst, ⊎_elim, mul-le-mul_right, ℤ, pos, negsuc, ◌+ℤ◌, ◌*ℤ◌, ◌≤ℤ◌, ◌<ℤ◌, nat_abs}
use Rattle.std.proofs.Math.Nat.{div-one}
use Rattle.std.proofs.Math.IntN.{pos-*ℤ-pos, *ℤ_comm}
use Rattle.std.specs.Int.Signed.{shr_z}
use Rattle.std.proofs.lemmas.Int.{ints}
use Rattle.std.proofs.lemmas.Nat.{pow_pos, pow-add}
use Rattle.std.proofs.lemmas.Bool.{cases_lt}
use Rattle.dyadic.specs.Mantissa.{IsWithinStep}
use Rattle.dyadic.proofs.Ints.{*ℤ-le_right, *ℤ-lt_right, *ℤ_assoc, add-*ℤ}
use Rattle.dyadic.proofs.Shifts.{shr_below, shr_above}
use Rattle.dyadic.proofs.Unique.{size_in_steps}

pub regroup : (z : ℤ) (a b : ℕ) → (z *ℤ pos a) *ℤ pos b ≡ z *ℤ pos (a * b)
regroup z a b = *ℤ_assoc z (pos a) (pos b) ∙ ap (λ w. z *ℤ w) (pos-*ℤ-pos a b)

-- a product of two numbers by their mantissas
pub units_product : (m n : ℤ) (i j : ℕ) → (m *ℤ n) *ℤ pos (2 ^ (i + j)) ≡ (m *ℤ pos (2 ^ i)) *ℤ (n *ℤ pos (2 ^ j))
units_product m n i j =
    let p = pos (2 ^ i) in
    let q = pos (2 ^ j) in
    ap (λ x. (m *ℤ n) *ℤ pos x) (pow-add 2 i j)
    ∙ ap (λ z. (m *ℤ n) *ℤ z) (sym (pos-*ℤ-pos (2 ^ i) (2 ^ j)))
    ∙ *ℤ_assoc m n (p *ℤ q)
    ∙ ap (λ z. m *ℤ z) (sym (*ℤ_assoc n p q) ∙ ap (λ z. z *ℤ q) (*ℤ_comm n p) ∙ *ℤ_assoc p n q)
    ∙ sym (*ℤ_assoc m p (n *ℤ q))

next_times : (t : ℤ) (k : ℕ) → (t +ℤ pos 1) *ℤ pos k ≡ (t *ℤ pos k) +ℤ pos k
next_times t k = add-*ℤ t (pos 1) (pos k) ∙ (let e : pos 1 *ℤ pos k ≡ pos k = omega (arith, ints) in ap (λ z. (t *ℤ pos k) +ℤ z) e)

pub shr_one : (m : ℤ) → shr_z m 1 ≡ m
shr_one (pos a) = ap pos (div-one a)
shr_one (negsuc a) = ap negsuc (div-one a)

-- whole steps
pub within_exact : (n : ℤ) (d : ℕ) (t : ℤ) (s : ℕ) → 0 < d → n ≡ (t *ℤ pos (2 ^ s)) *ℤ pos d → IsWithinStep n d t s
within_exact n d t s p e = record {
  at_least = omega (arith, ints, e);
  below =
      let k = *ℤ-lt_right (t *ℤ pos (2 ^ s)) ((t +ℤ pos 1) *ℤ pos (2 ^ s)) d p (*ℤ-lt_right t (t +ℤ pos 1) (2 ^ s) (pow_pos s) (omega (arith, ints))) in
      subst (λ z. z <ℤ (((t +ℤ pos 1) *ℤ pos (2 ^ s)) *ℤ pos d)) (sym e) k;
  many = λ _ _. e;
}

-- m * 2^i of which k bits are dropped
pub within_shifted : (m : ℤ) (k i s d : ℕ) → 0 < d → 2 ^ s * d ≡ 2 ^ k * 2 ^ i → (0 < s → 0 < k → 2 ^ 61 * 2 ^ k ≤ nat_abs m) → IsWithinStep (m *ℤ pos (2 ^ i)) d (shr_z m (2 ^ k)) s
within_shifted m k i s d p e large =
    let t = shr_z m (2 ^ k) in
    let low = *ℤ-le_right (t *ℤ pos (2 ^ k)) m (2 ^ i) (shr_below m (2 ^ k) (pow_pos k)) in
    let high = *ℤ-lt_right m ((t +ℤ pos 1) *ℤ pos (2 ^ k)) (2 ^ i) (pow_pos i) (subst (λ z. m <ℤ z) (sym (next_times t (2 ^ k))) (shr_above m (2 ^ k) (pow_pos k))) in
    let turned : (z : ℤ) → (z *ℤ pos (2 ^ k)) *ℤ pos (2 ^ i) ≡ (z *ℤ pos (2 ^ s)) *ℤ pos d = λ z. regroup z (2 ^ k) (2 ^ i) ∙ ap (λ x. z *ℤ pos x) (sym e) ∙ sym (regroup z (2 ^ s) d) in
    record {
      at_least = subst (λ z. z ≤ℤ (m *ℤ pos (2 ^ i))) (turned t) low;
      below = subst (λ z. (m *ℤ pos (2 ^ i)) <ℤ z) (turned (t +ℤ pos 1)) high;
      many = λ some few. ⊎_elim
          (λ (none : k < 1).
          let k0 : 0 ≡ k = omega arith in
          let whole : t ≡ m = subst (λ x. shr_z m (2 ^ x) ≡ m) k0 (shr_one m) in
          let one : m ≡ m *ℤ pos (2 ^ k) = subst (λ x. m ≡ m *ℤ pos (2 ^ x)) k0 (let f : m ≡ m *ℤ pos 1 = omega (arith, ints) in f) in
          ap (λ z. z *ℤ pos (2 ^ i)) one ∙ turned m ∙ ap (λ z. (z *ℤ pos (2 ^ s)) *ℤ pos d) (sym whole))
          (λ (more : 1 ≤ k). absurd (let l = mul-le-mul_right (2 ^ i) (large some more) in omega (arith, size_in_steps m i, l, few, ap (λ x. 2 ^ 61 * x) e)))
          (cases_lt k 1);
    }

-- w steps and a number of which k bits are dropped
pub within_sum : (w y : ℤ) (k j s : ℕ) → 2 ^ s ≡ 2 ^ k * 2 ^ j → (0 < s → 0 < k → 2 ^ 61 * 2 ^ s ≤ nat_abs ((w *ℤ pos (2 ^ s)) +ℤ (y *ℤ pos (2 ^ j)))) → IsWithinStep ((w *ℤ pos (2 ^ s)) +ℤ (y *ℤ pos (2 ^ j))) 1 (w +ℤ shr_z y (2 ^ k)) s
within_sum w y k j s e large =
    let t = shr_z y (2 ^ k) in
    let low = *ℤ-le_right (t *ℤ pos (2 ^ k)) y (2 ^ j) (shr_below y (2 ^ k) (pow_pos k)) in
    let high = *ℤ-lt_right y ((t +ℤ pos 1) *ℤ pos (2 ^ k)) (2 ^ j) (pow_pos j) (subst (λ z. y <ℤ z) (sym (next_times t (2 ^ k))) (shr_above y (2 ^ k) (pow_pos k))) in
    let turned : (z : ℤ) → (z *ℤ pos (2 ^ k)) *ℤ pos (2 ^ j) ≡ z *ℤ pos (2 ^ s) = λ z. regroup z (2 ^ k) (2 ^ j) ∙ ap (λ x. z *ℤ pos x) (sym e) in
    let both = add-*ℤ w t (pos (2 ^ s)) in
    let more = next_times (w +ℤ t) (2 ^ s) in
    let next = next_times t (2 ^ s) in
    record {
      at_least = omega (arith, ints, low, turned t, both);
      below = omega (arith, ints, high, turned (t +ℤ pos 1), both, more, next);
      many = λ some few. ⊎_elim
          (λ (none : k < 1).
          let k0 : 0 ≡ k = omega arith in
          let whole : t ≡ y = subst (λ x. shr_z y (2 ^ x) ≡ y) k0 (shr_one y) in
          let same : y *ℤ pos (2 ^ j) ≡ t *ℤ pos (2 ^ s) =
          ap (λ z. z *ℤ pos (2 ^ j)) (sym whole) ∙ ap (λ x. t *ℤ pos x) (subst (λ x. 2 ^ j ≡ 2 ^ x * 2 ^ j) k0 (omega arith) ∙ sym e) in
          omega (arith, ints, same, both))
          (λ (some_k : 1 ≤ k). absurd (let l = large some some_k in omega (arith, l, few)))
          (cases_lt k 1);
    }
