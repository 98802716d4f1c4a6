-- The parts of a text.
use Rattle.std.specs.Int.{IsInRange}
use Rattle.std.specs.Prelude.{EachIndex, slice_index, ◌+◌, ◌-◌, ◌%◌, ◌≢◌, ◌≡◌, ◌<◌, length, ℕ, List, [], ◌∷◌, ◌++◌, pos, ◌-ℤ◌, Bool, true, false, zero, suc}
use Rattle.std.specs.Fmt.{decimal, signed_decimal}

-- `-`, or nothing
abbrev pub minus_sign : Bool → List ℕ
minus_sign true = 45 ∷ []
minus_sign false = []

-- `mbe` for a size of `odd * 2^shift` units
abbrev pub spelling : Bool → ℕ → ℕ → List ℕ
spelling negative zero shift = 48 ∷ []
spelling negative (suc m) shift = minus_sign negative ++ decimal (suc m) ++ 98 ∷ signed_decimal (pos shift -ℤ pos 120)

-- one digit or more
pub record IsDigits (ds : List ℕ) : Type 0 where
  pub digits : EachIndex ds (λ k. IsInRange 48 57 (slice_index ds k))
  pub some : 0 < length ds

-- a sign, digits, `b`, a sign and digits
abbrev pub joined_text : Bool → List ℕ → Bool → List ℕ → List ℕ
joined_text negative ds below es = minus_sign negative ++ (ds ++ 98 ∷ (minus_sign below ++ es))

-- a text of these parts
pub record IsShaped (bs : List ℕ) (negative : Bool) (ds : List ℕ) (below : Bool) (es : List ℕ) : Type 0 where
  pub joined : bs ≡ joined_text negative ds below es
  pub digits : IsDigits ds
  pub exponent : IsDigits es

-- in the one spelling: the digits write an odd number without a leading zero, the exponent has none either and is not -0
pub record IsCanonical (ds : List ℕ) (below : Bool) (es : List ℕ) : Type 0 where
  pub leading : slice_index ds 0 ≢ 48
  pub odd : slice_index ds (length ds - 1) % 2 ≡ 1
  pub exponent : slice_index es 0 ≡ 48 → (length es ≡ 1) × (below ≡ false)

-- 2^e or 2^-e is 2^shift units
abbrev pub IsShift : Bool → ℕ → ℕ → Type 0
IsShift true e shift = shift + e ≡ 120
IsShift false e shift = shift ≡ 120 + e
