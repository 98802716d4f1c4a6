-- Scripts that are too long.
use Rattle.std.proofs.Common.{◌≡◌, ◌≤◌, ◌<◌, ℕ, List, [], Option, Some, None, length, ap, sym, ◌∙◌, arith, IfSome}
use Rattle.std.specs.Prelude.{option_map}
use Rattle.desk.specs.Sight.{Sight}
use Rattle.script_fault.specs.declared.fault.ScriptFault.{ScriptFault}
use Rattle.check_run.specs.ScriptFaults.{fault_text}
use Rattle.script_reading.specs.Faults.{most_bytes}
use Rattle.script_reading.specs.Reader.{too_many_bytes}
use Rattle.check_run.specs.declared.script.Halt.{Halt}
use Rattle.check_run.specs.declared.script.Halt.TheVariants as halt
use Rattle.check_run.specs.Course.{Quiet}
use Rattle.check_run.specs.Parts.{After}
use Rattle.check_run.specs.Script.{HasFaultText, Halts, IsTooLong, script_start}

over : (P Q : List ℕ → Type 0) (o : Option (List ℕ)) → ((x : List ℕ) → P x → Q x) → IfSome o P → IfSome o Q
over P Q None f h = tt
over P Q (Some x) f h = f x h

quiet_after : (name : List ℕ) (old new : Sight) → After (script_start name) old new → Quiet (script_start name) old new
quiet_after name old new after = record { starts_made = 1; starts_are = after.starts_are; cert = after.cert; answer = after.answer }

-- where that is the fault of each of them
pub fetches_long : (first : List ℕ → Option ScriptFault) → ((script : List ℕ) → most_bytes < length script → first script ≡ Some too_many_bytes) → (name : List ℕ) (old new : Sight) (h : Halt) → After (script_start name) old new → IfSome old.script (λ held. most_bytes < length held) → IsTooLong h →
    Halts first name h old new
fetches_long first refuses name old new (halt.Refused text) after long is = record {
  after = after;
  read = over (λ held. most_bytes < length held) (λ script. length script ≤ most_bytes → new.script ≡ Some []) old.script (λ script l short. absurd (omega arith)) long;
  has = over (λ held. most_bytes < length held) (λ script. HasFaultText (first script) text.items) old.script
      (λ script l. ap (λ (f : Option ScriptFault). option_map fault_text f) (refuses script l) ∙ ap (λ (t : List ℕ). Some t) (sym is)) long;
}
fetches_long first refuses name old new halt.Failed after long is = absurd is
fetches_long first refuses name old new halt.Memory after long is = quiet_after name old new after
