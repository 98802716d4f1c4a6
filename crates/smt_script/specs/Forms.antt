-- What is found at a place among expressions.
use Rattle.std.specs.Prelude.{◌≡◌, ℕ, ◌<◌, List, Bool, true, false, Option, Some, None}
use Rattle.script_model.specs.Sexp.{Place, symbol, numeral, string, Sexp, leaf, group, Sexps, none, more}
use Rattle.smt_sexp.specs.Arena.{rest_of, places_of, expression_at}
use Rattle.smt_sexp.specs.Views.{place_of}
use Rattle.script_fault.specs.declared.place.Place as code
use Rattle.script_fault.specs.declared.name.Name as names
use Rattle.smt_sexp.specs.declared.sexps.Sexps as arena
use Rattle.std.specs.Borrow.{Bor}

-- a symbol stands first, and the rest
abbrev pub as_symbol : Sexps → Option (Place × List ℕ × Sexps)
as_symbol (more (leaf at (symbol name)) rest) = Some (at, name, rest)
as_symbol _ = None

abbrev pub as_numeral : Sexps → Option (List ℕ × Sexps)
as_numeral (more (leaf at (numeral digits)) rest) = Some (digits, rest)
as_numeral _ = None

abbrev pub as_string : Sexps → Option Sexps
as_string (more (leaf at (string t)) rest) = Some rest
as_string _ = None

abbrev pub as_group : Sexps → Option (Sexps × Sexps)
as_group (more (group at items) rest) = Some (items, rest)
as_group _ = None

abbrev pub as_any : Sexps → Option (Sexp × Sexps)
as_any (more e rest) = Some (e, rest)
as_any none = None

abbrev pub is_end : Sexps → Bool
is_end none = true
is_end _ = false

-- the place behind what was found goes on
pub record Behind (s : arena.Sexps) (at after : ℕ) : Type 0 where
  pub later : at < after
  pub within : at < places_of s

abbrev pub FindsSymbol : arena.Sexps → ℕ → Option (code.Place × Bor names.Name × ℕ) → Type 0
FindsSymbol s at None = as_symbol (rest_of s at) ≡ None
FindsSymbol s at (Some (place, name, after)) = (as_symbol (rest_of s at) ≡ Some (place_of place, name.now, rest_of s after)) × Behind s at after

abbrev pub FindsNumeral : arena.Sexps → ℕ → Option (Bor names.Name × ℕ) → Type 0
FindsNumeral s at None = as_numeral (rest_of s at) ≡ None
FindsNumeral s at (Some (digits, after)) = as_numeral (rest_of s at) ≡ Some (digits.now, rest_of s after)

abbrev pub FindsString : arena.Sexps → ℕ → Option ℕ → Type 0
FindsString s at None = as_string (rest_of s at) ≡ None
FindsString s at (Some after) = as_string (rest_of s at) ≡ Some (rest_of s after)

abbrev pub FindsGroup : arena.Sexps → ℕ → Option (ℕ × ℕ) → Type 0
FindsGroup s at None = as_group (rest_of s at) ≡ None
FindsGroup s at (Some (inside, after)) = (as_group (rest_of s at) ≡ Some (rest_of s inside, rest_of s after)) × Behind s at after

abbrev pub FindsAny : arena.Sexps → ℕ → Option ℕ → Type 0
FindsAny s at None = as_any (rest_of s at) ≡ None
FindsAny s at (Some after) = (as_any (rest_of s at) ≡ Some (expression_at s at, rest_of s after)) × Behind s at after
