-- The first fault of one part is that of the script.
use Rattle.std.proofs.Common.{◌≡◌, ℕ, List, [], ◌∷◌, Bool, true, false, cond, nat_le, length, Option, Some, None}
use Rattle.script_fault.specs.declared.fault.ScriptFault.{ScriptFault}
use Rattle.smt_sexp.specs.Lexicon.{TextRead, whole, faulty, read}
use Rattle.smt_sexp.specs.TextAnswers.{bytes_fault, most_bytes, text_fault, too_many_bytes}
use Rattle.smt_script.specs.Commands.{CommandsRead, steps, command_fault}
use Rattle.smt_script.specs.Levels.{Asked, Step}
use Rattle.smt_script.specs.CommandAnswers.{commands_fault}
use Rattle.sort_check.specs.Sorts.{Finding}
use Rattle.sort_check.specs.SortAnswers.{finding_fault}
use Rattle.sort_check.specs.Single.{asked_fault}
use Rattle.script_reading.specs.Faults.{by_bytes, by_commands, by_sorts, by_text, in_checks, in_rewritten}

module _ (sorts : List Step → Finding) (last : List Asked → Option ScriptFault) where
  pub text_first : (r : TextRead) (x : ScriptFault) → text_fault r ≡ Some x → by_text sorts last r ≡ Some x
  text_first (faulty at f) x e = e
  text_first (whole es) x e = cc

  bytes-by : (r : TextRead) (b : Bool) (x : ScriptFault) → cond b (text_fault r) (Some too_many_bytes) ≡ Some x → cond b (by_text sorts last r) (Some too_many_bytes) ≡ Some x
  bytes-by r true x e = text_first r x e
  bytes-by r false x e = e

  pub bytes_first : (bytes : List ℕ) (x : ScriptFault) → bytes_fault bytes ≡ Some x → by_bytes sorts last bytes ≡ Some x
  bytes_first bytes x e = bytes-by (read bytes) (nat_le (length bytes) most_bytes) x e

  pub commands_first : (r : CommandsRead) (x : ScriptFault) → commands_fault r ≡ Some x → by_commands sorts last r ≡ Some x
  commands_first (command_fault at f) x e = e
  commands_first (steps ss) x e = cc

  pub sorts_first : (ss : List Step) (found : Finding) (x : ScriptFault) → finding_fault found ≡ Some x → by_sorts last ss found ≡ Some x
  sorts_first ss (Some f) x e = e
  sorts_first ss None x e = cc

pub checks_first : (bound : Option ℕ) (asked : List Asked) (x : ScriptFault) → asked_fault asked ≡ Some x → in_checks bound asked ≡ Some x
checks_first bound [] x e = e
checks_first bound (a ∷ []) x e = cc
checks_first bound (a ∷ b ∷ later) x e = e

pub rewritten_first : (bound : Option ℕ) (asked : List Asked) (x : ScriptFault) → asked_fault asked ≡ Some x → in_rewritten bound asked ≡ Some x
rewritten_first bound [] x e = e
rewritten_first bound (a ∷ []) x e = cc
rewritten_first bound (a ∷ b ∷ later) x e = e
