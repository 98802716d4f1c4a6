-- Powers of ten.
use Rattle.std.proofs.Common.{◌≡◌, ℕ, ◌^◌, ◌≤◌, arith, List, ◌++◌, length, ap, ap₂, ◌∙◌, pos}
use Rattle.std.specs.Int.RustNames.{unsigned_abs}
use Rattle.std.specs.Str.Parse.{digits_value_after}
use mir.Syntax.{w128}
use mir.Val.{to_z}
use mir.Facts.{to_z_pos}
use Rattle.dyadic.specs.Lowest.{reduced}
use Rattle.script_model.specs.Reading.{literal_value}
use native.Mathlib.Nat.{pow-le-pow_right, one-le-pow}

pub ten_le : (n : ℕ) → n ≤ 36 → 10 ^ n ≤ 10 ^ 36
ten_le n h = pow-le-pow_right (omega arith) h

pub ten_some : (n : ℕ) → 1 ≤ 10 ^ n
ten_some n = one-le-pow n 10 (omega arith)

-- the number of a literal, as numbers of 128 bits spell it
pub literal_is : (n b : ℕ) (digits decimals : List ℕ) → n ≡ digits_value_after 10 0 (digits ++ decimals) → b ≡ 10 ^ length decimals → n ≤ 10 ^ 36 → b ≤ 10 ^ 36 →
    reduced (record { num = to_z w128 n; den = unsigned_abs (to_z w128 b) }) ≡ reduced (literal_value digits decimals)
literal_is n b digits decimals e f g h = ap₂ (λ z d. reduced (record { num = z; den = d })) (to_z_pos w128 {n = n} (omega (arith, g)) ∙ ap pos e) (ap unsigned_abs (to_z_pos w128 {n = b} (omega (arith, h))) ∙ f)
