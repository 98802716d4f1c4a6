-- Whether a fraction is at most a number and a margin, said of signs and sizes.
use Rattle.std.specs.Prelude.{ℕ, ◌+◌, ◌*◌, ◌^◌, ◌≤◌, ◌<◌, ◌≡◌, Bool, true, false}

-- n / d, with a minus or without, is at most a number of this sign and of v units and a margin of e units
abbrev pub IsUnder : Bool → Bool → ℕ → ℕ → ℕ → ℕ → Type 0
IsUnder false false n d v e = n * 2 ^ 120 ≤ (v + e) * d
IsUnder true false n d v e = Unit {0}
IsUnder false true n d v e = n * 2 ^ 120 + v * d ≤ e * d
IsUnder true true n d v e = v * d ≤ n * 2 ^ 120 + e * d

-- v units and a margin of e units in steps of 2^shift
pub record IsInSteps (v e size margin shift : ℕ) : Type 0 where
  pub fine : shift < 120
  pub size_is : size * 2 ^ shift ≡ v
  pub margin_is : margin * 2 ^ shift ≡ e
  pub size_room : size < 2 ^ 126
  pub margin_room : margin < 2 ^ 126
