-- Whole numbers by a factor and a power of 2.
use Rattle.std.specs.Prelude.{◌≡◌, ℕ, ◌*◌, ◌^◌, ◌≤◌}

-- the number is at most 2^142
pub record IsShort (factor power : ℕ) : Type 0 where
  pub short : power ≤ 142
  pub in_range : factor * 2 ^ power ≤ 2 ^ 142
  pub zero : factor ≡ 0 → power ≡ 0
