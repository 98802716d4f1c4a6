-- A text that is being read.
use Rattle.std.specs.Prelude.{◌≡◌, ℕ, zero, List, Bool, true, false, None}
use Rattle.script_model.specs.Sexp.{Place, Sexp}
use Rattle.smt_sexp.specs.Building.{Stands}
use Rattle.smt_sexp.specs.Lexicon.{Unclosed, TextRead, expressions, sayings, end_of_text}
use Rattle.smt_sexp.specs.declared.building.Building.{Building}

-- what was read, and these bytes from this place on, make the whole text
abbrev pub IsReading : Building → Place → List ℕ → TextRead → Type 0
IsReading b at rest all = (us : List Unclosed) × (tops : List Sexp) × Stands b us tops × (all ≡ expressions None us tops (sayings zero at rest))

-- what was read is all of it
abbrev pub IsRead : Building → TextRead → Type 0
IsRead b all = (us : List Unclosed) × (tops : List Sexp) × Stands b us tops × (all ≡ end_of_text None us tops)

-- the text ends here, or goes on with these bytes
abbrev pub GoesOn : Building → Place → List ℕ → TextRead → Bool → Type 0
GoesOn b at rest all true = IsRead b all
GoesOn b at rest all false = IsReading b at rest all
