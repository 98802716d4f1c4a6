-- The form of the code's numbers: a mantissa times 2^shift units.
use Rattle.std.specs.Prelude.{◌≡◌, ℕ, ◌*◌, ◌^◌, ◌≤◌, ◌<◌, ℤ, pos, ◌+ℤ◌, ◌*ℤ◌, ◌≤ℤ◌, ◌<ℤ◌, nat_abs}

-- a number of two halves of 32 bits, the upper one with the sign
abbrev pub mantissa : ℤ → ℕ → ℤ
mantissa high low = (high *ℤ pos (2 ^ 32)) +ℤ pos low

-- m * 2^shift units in the one form: m has 62 bits, or fewer where the shift is 0
pub record IsNormal (m : ℤ) (shift : ℕ) : Type 0 where
  pub few_bits : nat_abs m < 2 ^ 62
  pub many_bits : 0 < shift → 2 ^ 61 ≤ nat_abs m
  pub in_range : nat_abs m * 2 ^ shift ≤ 2 ^ 242

-- n / d units lie within one step of 2^s above t steps; where a step is more than a unit,
-- they are that many steps exactly, or so many that no number of the grid lies in between
pub record IsWithinStep (n : ℤ) (d : ℕ) (t : ℤ) (s : ℕ) : Type 0 where
  pub at_least : ((t *ℤ pos (2 ^ s)) *ℤ pos d) ≤ℤ n
  pub below : n <ℤ (((t +ℤ pos 1) *ℤ pos (2 ^ s)) *ℤ pos d)
  pub many : 0 < s → nat_abs n < 2 ^ 61 * 2 ^ s * d → n ≡ (t *ℤ pos (2 ^ s)) *ℤ pos d
