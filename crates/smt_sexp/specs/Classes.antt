-- The classes of bytes, as tests.
use Rattle.std.specs.Prelude.{ℕ, ◌^◌, ◌≤◌, ◌<◌, List, [], ◌∷◌, ◌++◌, Bool, false, not, ◌&&◌, ◌||◌, nat_eq, nat_le, length}
use Rattle.std.specs.Str.Parse.{digits_value}
use Rattle.smt_sexp.specs.Lexicon.{is_white, is_digit, is_symbol_byte, among}
use Rattle.smt_sexp.specs.declared.bytes.Class.{Class}
use Rattle.smt_sexp.specs.declared.bytes.Class.TheVariants.{White, Digit, Symbol, Comment, Quoted}

abbrev pub is_in : Class → ℕ → Bool
is_in White = is_white
is_in Digit = is_digit
is_in Symbol = is_symbol_byte
is_in Comment = λ b. not (among b (10 ∷ 13 ∷ []))
is_in Quoted = λ b. not (nat_eq b 124 || nat_eq b 92)

-- a byte that writes a digit
abbrev pub IsDigit : ℕ → Type 0
IsDigit d = (48 ≤ d) × (d < 58)

-- digits, of which those at the end stand behind the point, that are no number of the language
abbrev pub is_wide : List ℕ → List ℕ → Bool
is_wide digits decimals = not (nat_le (digits_value 10 (digits ++ decimals)) (10 ^ 36) && nat_le (length decimals) 36)

-- a symbol's byte stands first
abbrev pub begins_symbol : List ℕ → Bool
begins_symbol [] = false
begins_symbol (b ∷ bs) = is_symbol_byte b

-- a point stands first
abbrev pub begins_point : List ℕ → Bool
begins_point [] = false
begins_point (b ∷ bs) = nat_eq b 46

-- a zero, and more digits behind it
abbrev pub leads_zero : List ℕ → Bool
leads_zero (b ∷ c ∷ digits) = nat_eq b 48
leads_zero digits = false
