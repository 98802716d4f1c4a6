-- Bytes of which there may be too many.
use Rattle.std.proofs.Common.{◌≡◌, ◌<◌, ◌≤◌, ℕ, List, Bool, false, cond, nat_le, Some, length, ap, ◌∙◌, arith}
use Rattle.std.specs.Prelude.{MatchResult, Result, Ok, Err}
use Rattle.std.proofs.lemmas.Bool.{le-leb}
use Rattle.std.proofs.lemmas.Bool.Decides.{leb_tells}
use Rattle.script_fault.specs.Answers.{IsFaultOrMemory}
use Rattle.script_fault.specs.declared.fault.ReadError.{ReadError}
use Rattle.script_fault.specs.declared.fault.ReadError.TheVariants.{Fault, Memory}
use Rattle.smt_sexp.specs.Lexicon.{read}
use Rattle.smt_sexp.specs.TextAnswers.{HasExpressions, IsTextAnswer, bytes_fault, most_bytes, text_fault, too_many_bytes}
use Rattle.smt_sexp.specs.declared.sexps.Sexps as code

not-few : (n m : ℕ) → m < n → nat_le n m ≡ false
not-few n m above = grind (arith, leb_tells)

pub fault_of_many : (bytes : List ℕ) → most_bytes < length bytes → bytes_fault bytes ≡ Some too_many_bytes
fault_of_many bytes many = ap (λ (b : Bool). cond b (text_fault (read bytes)) (Some too_many_bytes)) (not-few (length bytes) most_bytes many)

fault-of-text : (bytes : List ℕ) → length bytes ≤ most_bytes → bytes_fault bytes ≡ text_fault (read bytes)
fault-of-text bytes few = ap (λ (b : Bool). cond b (text_fault (read bytes)) (Some too_many_bytes)) (le-leb (length bytes) most_bytes few)

pub reads_bytes : (bytes : List ℕ) (r : Result code.Sexps ReadError) → length bytes ≤ most_bytes → IsTextAnswer r (read bytes) →
    MatchResult r (λ s. HasExpressions bytes s) (λ e. IsFaultOrMemory e (bytes_fault bytes))
reads_bytes bytes (Ok s) few h = record { few = few; text = h }
reads_bytes bytes (Err (Fault f)) few h = fault-of-text bytes few ∙ h
reads_bytes bytes (Err Memory) few h = tt
