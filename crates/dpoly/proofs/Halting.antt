-- The refusal of a script for its only check.
use Rattle.std.proofs.Common.{◌≡◌, ◌<◌, ℕ, List, Option, Some, None, length, ap, sym, subst, ◌∙◌}
use Rattle.std.specs.Prelude.{option_map}
use Rattle.std.specs.declared.vec.Vec.{Vec}
use Rattle.std.specs.declared.alloc.Global.{Global}
use Rattle.script_fault.specs.declared.fault.ScriptFault.{ScriptFault}
use Rattle.script_reading.specs.Faults.{most_bytes, script_fault}
use Rattle.script_reading.proofs.Long.{long_script}
use Rattle.check_run.specs.declared.script.Halt.{Halt}
use Rattle.check_run.specs.declared.script.Halt.TheVariants as halt
use Rattle.check_run.specs.declared.status.Status.TheVariants.{ScriptRefused}
use Rattle.check_run.specs.Both.{IsScriptHeld}
use Rattle.check_run.specs.Can.{CanBy}
use Rattle.check_run.specs.Course.{Course, says}
use Rattle.check_run.specs.Script.{HasFaultText, IsHaltOfFault, IsTooLong}
use Rattle.check_run.specs.ScriptFaults.{fault_text}

pub by_text : (f : Option ScriptFault) (text : List ℕ) (goes : Course → Type 0) → HasFaultText f text → CanBy f goes (says ScriptRefused text)
by_text None text goes e = cc
by_text (Some f) text goes e = let same : text ≡ fault_text f = cc in ap (λ (t : List ℕ). says ScriptRefused t) same

-- a script that is too long has that fault, whatever the bound
pub long_halt : (bound : Option ℕ) (script : List ℕ) (h : Halt) → most_bytes < length script → IsTooLong h → IsHaltOfFault (script_fault bound script) h
long_halt bound script (halt.Refused text) long is =
    ap (λ (f : Option ScriptFault). option_map fault_text f) (long_script bound script long) ∙ ap (λ (t : List ℕ). Some t) (sym is)
long_halt bound script halt.Failed long is = absurd is
long_halt bound script halt.Memory long is = tt

-- the script that is held is the one that was read
pub held_is : (o : Option (Vec ℕ Global)) (v : Vec ℕ Global) (script : List ℕ) → o ≡ Some v → IsScriptHeld o script → v.items ≡ script
held_is o v script e held = subst (λ (x : Option (Vec ℕ Global)). IsScriptHeld x script) e held
