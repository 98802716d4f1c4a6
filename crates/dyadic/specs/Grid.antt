-- Sizes on the grid: whole numbers of units, where a unit is 2^-120.
use Rattle.dyadic.specs.Rounding.{IsRepresentable}
use Rattle.std.specs.Prelude.{◌≡◌, ℕ, ◌*◌, ◌^◌, ◌%◌, ◌≤◌, ◌<◌, min}

-- the one spelling of a representable size as odd * 2^shift units: odd is odd, or both are 0
pub record IsSpelling (odd shift : ℕ) : Type 0 where
  pub few_bits : odd ≤ 2 ^ 62
  pub short : shift ≤ 242
  pub in_range : odd * 2 ^ shift ≤ 2 ^ 242
  pub is_odd : odd % 2 ≡ min 1 odd
  pub zero : odd ≡ 0 → shift ≡ 0

-- r is the greatest representable size that is not above v
pub record IsRoundedDown (v r : ℕ) : Type 0 where
  pub at_most : r ≤ v
  pub greatest : (z : ℕ) → IsRepresentable z → z ≤ v → z ≤ r

-- r is the least representable size that is not below v
pub record IsRoundedUp (v r : ℕ) : Type 0 where
  pub at_least : v ≤ r
  pub least : (z : ℕ) → IsRepresentable z → v ≤ z → r ≤ z

-- v is above every representable size
abbrev pub IsAboveAll : ℕ → Type 0
IsAboveAll v = (z : ℕ) → IsRepresentable z → z < v

-- Of the fraction n / d of units, low * 2^shift and high * 2^shift are a lower and an upper bound,
-- with no representable size between either of them and the fraction.
pub record IsTight (n d low high shift : ℕ) : Type 0 where
  pub below : low * 2 ^ shift * d ≤ n
  pub above : n ≤ high * 2 ^ shift * d
  pub greatest : (z : ℕ) → IsRepresentable z → z * d ≤ n → z ≤ low * 2 ^ shift
  pub least : (z : ℕ) → IsRepresentable z → n ≤ z * d → high * 2 ^ shift ≤ z

-- Of the root of n units of units, low * 2^shift and high * 2^shift are a lower and an upper bound,
-- with no representable size between either of them and the root.
pub record IsTightRoot (n low high shift : ℕ) : Type 0 where
  pub below : low * 2 ^ shift * (low * 2 ^ shift) ≤ n
  pub above : n ≤ high * 2 ^ shift * (high * 2 ^ shift)
  pub greatest : (z : ℕ) → IsRepresentable z → z * z ≤ n → z ≤ low * 2 ^ shift
  pub least : (z : ℕ) → IsRepresentable z → n ≤ z * z → high * 2 ^ shift ≤ z

-- r is the greatest representable size whose square is not above n, or the least whose square is not below
pub record IsRootDown (n r : ℕ) : Type 0 where
  pub at_most : r * r ≤ n
  pub greatest : (z : ℕ) → IsRepresentable z → z * z ≤ n → z ≤ r

pub record IsRootUp (n r : ℕ) : Type 0 where
  pub at_least : n ≤ r * r
  pub least : (z : ℕ) → IsRepresentable z → n ≤ z * z → r ≤ z
