-- What examples are made of: places, repeated bytes, and what is asked of a text.
use Rattle.std.proofs.Common.{ℕ, zero, suc, List, [], ◌++◌, Option, Some, None, codes}
use Prim.Native.String.{String}
use Rattle.script_model.specs.Sexp.{Place}
use Rattle.script_model.specs.Script.{Command}
use Rattle.smt_script.specs.Commands.{course_of, script_of}
use Rattle.smt_script.specs.Levels.{Step}

abbrev pub at : ℕ → ℕ → Place
at l c = record { line = l; column = c }

abbrev pub times : ℕ → List ℕ → List ℕ
times zero bytes = []
times (suc n) bytes = bytes ++ times n bytes

abbrev pub if_read : {A : Type 0} → (List Command → A) → A → Option (List Command) → A
if_read f missing (Some script) = f script
if_read f missing None = missing

-- what f says of the script of a text, and `missing` where it has none
abbrev pub of_whole : {A : Type 0} → (List Command → A) → A → String → A
of_whole f missing text = if_read f missing (script_of (codes text))

-- the same of a text without its `check-sat`
abbrev pub of_text : {A : Type 0} → (List Command → A) → A → String → A
of_text f missing text = if_read f missing (script_of (codes text ++ codes "\n(check-sat)\n"))

abbrev pub if_taken : {A : Type 0} → (List Step → A) → A → Option (List Step) → A
if_taken f missing (Some steps) = f steps
if_taken f missing None = missing

-- what f says of the steps of a text without its `check-sat`, and `missing` where it has a fault of its text or its commands
abbrev pub of_steps : {A : Type 0} → (List Step → A) → A → String → A
of_steps f missing text = if_taken f missing (course_of (codes text ++ codes "\n(check-sat)\n"))
