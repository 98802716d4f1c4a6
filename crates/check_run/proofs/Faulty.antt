-- The refusal of a script for a fault.
use Rattle.std.proofs.Common.{ℕ, List, Some, ap, sym}
use Rattle.script_fault.specs.declared.fault.ScriptFault.{ScriptFault}
use Rattle.check_run.specs.ScriptFaults.{fault_text}
use Rattle.check_run.specs.declared.script.Halt.{Halt}
use Rattle.check_run.specs.declared.script.Halt.TheVariants as halt
use Rattle.check_run.specs.Script.{HasText, IsHaltOfFault}

pub told-text : (x : ScriptFault) (h : Halt) → HasText (fault_text x) h → IsHaltOfFault (Some x) h
told-text x (halt.Refused text) e = ap (λ (t : List ℕ). Some t) (sym e)
told-text x halt.Failed e = e
told-text x halt.Memory e = tt
