-- Whole numbers by sign and size, and the rounding of a fraction of units.
use Rattle.std.specs.Prelude.{ℕ, ℤ, pos, negsuc, ◌*ℤ◌, ◌≤ℤ◌, ◌<ℤ◌, Bool, true, false, nat_abs, neg_ℤ}
use Rattle.dyadic.specs.Rounding.{IsRepresentable}

-- n or -n
abbrev pub signed_of : Bool → ℕ → ℤ
signed_of false n = pos n
signed_of true n = neg_ℤ (pos n)

-- n or -n, by the sign of another number
abbrev pub by_sign : ℤ → ℤ → ℤ
by_sign (pos m) n = n
by_sign (negsuc m) n = neg_ℤ n

-- z units are a number of the grid
abbrev pub IsKept : ℤ → Type 0
IsKept z = IsRepresentable (nat_abs z)

-- r is the greatest number of the grid that is not above n / d
pub record IsFloor (n : ℤ) (d : ℕ) (r : ℤ) : Type 0 where
  pub at_most : (r *ℤ pos d) ≤ℤ n
  pub greatest : (z : ℤ) → IsKept z → (z *ℤ pos d) ≤ℤ n → z ≤ℤ r

-- r is the least number of the grid that is not below n / d
pub record IsCeiling (n : ℤ) (d : ℕ) (r : ℤ) : Type 0 where
  pub at_least : n ≤ℤ (r *ℤ pos d)
  pub least : (z : ℤ) → IsKept z → n ≤ℤ (z *ℤ pos d) → r ≤ℤ z

-- n / d is below, or above, every number of the grid
abbrev pub IsBelowGrid : ℤ → ℕ → Type 0
IsBelowGrid n d = (z : ℤ) → IsKept z → n <ℤ (z *ℤ pos d)

abbrev pub IsAboveGrid : ℤ → ℕ → Type 0
IsAboveGrid n d = (z : ℤ) → IsKept z → (z *ℤ pos d) <ℤ n
