-- What a script without a fault is read to.
use Rattle.std.proofs.Common.{◌≡◌, ◌∙◌, ℕ, List, Bool, true, false, Option, Some, None, cond, length, nat_le, refl, ap}
use Rattle.smt_sexp.specs.Lexicon.{TextRead, whole, faulty, read}
use Rattle.script_model.specs.Sexp.{Sexp}
use Rattle.smt_script.specs.Commands.{CommandsRead, steps, command_fault, steps_of, accepted, of_read}
use Rattle.smt_script.specs.Levels.{Asked, Step, checks_of}
use Rattle.sort_check.specs.Sorts.{Finding}
use Rattle.script_fault.specs.declared.fault.ScriptFault.{ScriptFault}
use Rattle.script_reading.specs.Faults.{by_bytes, by_commands, by_sorts, by_text, most_bytes}
use Rattle.script_reading.specs.Reader.{too_many_bytes}
use Rattle.script_reading.specs.Session.{or_no_steps, steps_of_text}

-- steps without a fault of names and sorts
pub record ReadsTo (sorts : List Step → Finding) (bytes : List ℕ) (ss : List Step) : Type 0 where
  pub within : nat_le (length bytes) most_bytes ≡ true
  pub expressions : List Sexp
  pub are : read bytes ≡ whole expressions
  pub commands : steps_of expressions ≡ steps ss
  pub sorted : sorts ss ≡ None

module _ (sorts : List Step → Finding) (bytes : List ℕ) where
  pub steps_read : (ss : List Step) → ReadsTo sorts bytes ss → steps_of_text bytes ≡ ss
  steps_read ss r = ap (λ x. or_no_steps (of_read x)) r.are ∙ ap (λ x. or_no_steps (accepted x)) r.commands

  -- its first fault is that of the last part
  pub last_fault : (last : List Asked → Option ScriptFault) (ss : List Step) → ReadsTo sorts bytes ss → by_bytes sorts last bytes ≡ last (checks_of ss)
  last_fault last ss r =
      ap (λ (b : Bool). cond b (by_text sorts last (read bytes)) (Some too_many_bytes)) r.within ∙ ap (by_text sorts last) r.are
      ∙ ap (by_commands sorts last) r.commands ∙ ap (by_sorts last ss) r.sorted

  abbrev Reads : (List Asked → Option ScriptFault) → Type 0
  Reads last = (ss : List Step) × ReadsTo sorts bytes ss × (last (checks_of ss) ≡ None)

  module _ (last : List Asked → Option ScriptFault) (few : nat_le (length bytes) most_bytes ≡ true) where
    by-found : (es : List Sexp) (ss : List Step) (x : Finding) → read bytes ≡ whole es → steps_of es ≡ steps ss → sorts ss ≡ x → by_sorts last ss x ≡ None → Reads last
    by-found es ss None are commands sorted e = (ss, record { within = few; expressions = es; are = are; commands = commands; sorted = sorted }, e)
    by-found es ss (Some x) are commands sorted e = cc

    by-steps : (es : List Sexp) (r : CommandsRead) → read bytes ≡ whole es → steps_of es ≡ r → by_commands sorts last r ≡ None → Reads last
    by-steps es (steps ss) are commands e = by-found es ss (sorts ss) are commands refl e
    by-steps es (command_fault at x) are commands e = cc

    by-read : (r : TextRead) → read bytes ≡ r → by_text sorts last r ≡ None → Reads last
    by-read (whole es) are e = by-steps es (steps_of es) are refl e
    by-read (faulty at x) are e = cc

  by-length : (last : List Asked → Option ScriptFault) (b : Bool) → nat_le (length bytes) most_bytes ≡ b → cond b (by_text sorts last (read bytes)) (Some too_many_bytes) ≡ None → Reads last
  by-length last true few e = by-read last few (read bytes) refl e
  by-length last false few e = cc

  pub reads : (last : List Asked → Option ScriptFault) → by_bytes sorts last bytes ≡ None → (ss : List Step) × ReadsTo sorts bytes ss × (last (checks_of ss) ≡ None)
  reads last e = by-length last (nat_le (length bytes) most_bytes) refl e
