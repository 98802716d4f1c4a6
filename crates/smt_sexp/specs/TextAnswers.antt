-- What a reader of a text answers.
use Rattle.std.specs.Prelude.{◌≡◌, ℕ, ◌≤◌, List, length, nat_le, cond, Option, Some, None, Result, Ok, Err}
use Rattle.script_model.specs.Sexp.{Place}
use Rattle.script_fault.specs.Answers.{IsFaultOrMemory}
use Rattle.script_fault.specs.declared.fault.FaultKind.{FaultKind}
use Rattle.script_fault.specs.declared.fault.FaultKind.TheVariants.{BadByte, OpenToken, Unbalanced, NumberTooWide, TooMany}
use Rattle.script_fault.specs.declared.fault.ReadError.{ReadError}
use Rattle.script_fault.specs.declared.fault.ScriptFault.{ScriptFault}
use Rattle.script_fault.specs.declared.limit.Limit.TheVariants.{Bytes, Depth}
use Rattle.smt_sexp.specs.Lexicon.{TextFault, bad_byte, open_token, unbalanced, too_wide, too_deep, TextRead, whole, faulty, read}
use Rattle.smt_sexp.specs.Arena.{rest_of, listed}
use Rattle.smt_sexp.specs.declared.sexps.Sexps as code

abbrev pub fault_at : Place → FaultKind → ScriptFault
fault_at at kind = record { at = record { line = at.line; column = at.column }; kind = kind }

abbrev pub text_kind : TextFault → FaultKind
text_kind bad_byte = BadByte
text_kind open_token = OpenToken
text_kind unbalanced = Unbalanced
text_kind too_wide = NumberTooWide
text_kind too_deep = TooMany Depth

-- the first fault of a text
abbrev pub text_fault : TextRead → Option ScriptFault
text_fault (faulty at x) = Some (fault_at at (text_kind x))
text_fault (whole es) = None

-- all expressions of the text, or its first fault
abbrev pub IsTextAnswer : Result code.Sexps ReadError → TextRead → Type 0
IsTextAnswer (Ok s) read = read ≡ whole (listed (rest_of s 0))
IsTextAnswer (Err e) read = IsFaultOrMemory e (text_fault read)

-- ---- bytes, of which there may be too many

-- at most so many are read
abbrev pub most_bytes : ℕ
most_bytes = 67108864

abbrev pub too_many_bytes : ScriptFault
too_many_bytes = fault_at (record { line = 0; column = 0 }) (TooMany Bytes)

-- the first fault of these bytes: that there are too many, else that of their text
abbrev pub bytes_fault : List ℕ → Option ScriptFault
bytes_fault bytes = cond (nat_le (length bytes) most_bytes) (text_fault (read bytes)) (Some too_many_bytes)

-- the bytes are not too many, and these are all expressions of their text
pub record HasExpressions (bytes : List ℕ) (s : code.Sexps) : Type 0 where
  pub few : length bytes ≤ most_bytes
  pub text : read bytes ≡ whole (listed (rest_of s 0))
