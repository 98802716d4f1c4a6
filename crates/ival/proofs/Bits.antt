-- Bits of a word under masks, its highest bit and its lowest one.
use Rattle.std.proofs.Common.{◌≡◌, ℕ, suc, ◌-◌, ◌*◌, ◌/◌, ◌%◌, ◌^◌, ◌<◌, ◌≤◌, ◌∙◌, ap, arith, w64}
use Rattle.std.proofs.Math.Nat.{div-eq_of_lt-le, pow-suc}
use Rattle.std.proofs.lemmas.Nat.{one_shl, leading_top}
use Rattle.std.proofs.lemmas.Nat.Bits.{bit_at_and, bit_at_ones, bit_at_ones_above, bit_at_mask_inside, bit_at_mask_below, ones_shl, bit_at-lt, bit_at_above}
use Rattle.std.specs.Prelude.{bit_and}
use Rattle.std.specs.Int.{bit_at, leading_zeros}

-- `n & ((1 << k) - 1)`
pub below_kept : (n k i : ℕ) → k < 64 → i < k → bit_at (bit_and n (1 * 2 ^ k % 2 ^ 64 - 1)) i ≡ bit_at n i
below_kept n k i w h =
    ap (λ (x : ℕ). bit_at (bit_and n (x - 1)) i) (one_shl k 64 w) ∙ bit_at_and n (2 ^ k - 1) i ∙ omega (arith, bit_at_ones k i h, bit_at-lt n i)

pub below_cleared : (n k i : ℕ) → k < 64 → k ≤ i → bit_at (bit_and n (1 * 2 ^ k % 2 ^ 64 - 1)) i ≡ 0
below_cleared n k i w h =
    ap (λ (x : ℕ). bit_at (bit_and n (x - 1)) i) (one_shl k 64 w) ∙ bit_at_and n (2 ^ k - 1) i ∙ omega (arith, bit_at_ones_above k i h)

-- `n & (MAX << k)`
pub from_kept : (n k i : ℕ) → k < 64 → k ≤ i → i < 64 → bit_at (bit_and n ((2 ^ 64 - 1) * 2 ^ k % 2 ^ 64)) i ≡ bit_at n i
from_kept n k i w h l = let fits : k ≤ 64 = omega arith in
    ap (λ (x : ℕ). bit_at (bit_and n x) i) (ones_shl 64 k fits) ∙ bit_at_and n (2 ^ 64 - 2 ^ k) i ∙ omega (arith, bit_at_mask_inside k 64 i h l, bit_at-lt n i)

pub from_cleared : (n k i : ℕ) → k < 64 → i < k → bit_at (bit_and n ((2 ^ 64 - 1) * 2 ^ k % 2 ^ 64)) i ≡ 0
from_cleared n k i w h = let fits : k ≤ 64 = omega arith in
    ap (λ (x : ℕ). bit_at (bit_and n x) i) (ones_shl 64 k fits) ∙ bit_at_and n (2 ^ 64 - 2 ^ k) i ∙ omega (arith, bit_at_mask_below k 64 i h)

-- the highest bit
pub record IsHighest (n k : ℕ) : Type 0 where
  pub within : k < 64
  pub is-set : bit_at n k ≡ 1
  pub above : (i : ℕ) → k < i → bit_at n i ≡ 0

once : (n p : ℕ) → p ≤ n → n < 2 * p → n / p % 2 ≡ 1
once n p h l = let whole : n / p ≡ 1 = div-eq_of_lt-le {k = 1} p {m = n} (omega arith) (omega arith) in omega (arith, whole)

pub is_highest : (n : ℕ) → 0 < n → n < 2 ^ 64 → IsHighest n (63 - leading_zeros w64 n)
is_highest n p h =
    let top = leading_top 64 n p h in let j : ℕ = top.0 in
    let place : 63 - leading_zeros w64 n ≡ j = omega (arith, top.1) in
    let double : 2 ^ suc j ≡ 2 ^ j * 2 = pow-suc 2 j in
    rw place (record {
      within = omega (arith, top.1);
      is-set = once n (2 ^ j) top.2 (omega (arith, top.3, double));
      above = λ i l. bit_at_above n (suc j) i top.3 (omega arith);
    })
