use Rattle.std.proofs.Common.{Option, subst, sym}
use Rattle.script_fault.specs.declared.fault.ReadError.{ReadError}
use Rattle.script_fault.specs.declared.fault.ScriptFault.{ScriptFault}
use Rattle.script_fault.specs.Answers.{IsFaultOrMemory}
use Rattle.check_run.specs.Script.{IsHaltOfFault}
use Rattle.check_run.proofs.Faulty.{told-text}
use Rattle.check_run.proofs.script.refusal.Goals as goal

pub returns-in-Fault : goal.returns-in-Fault
returns-in-Fault c = λ found e.
    let it = subst (λ (x : ReadError). IsFaultOrMemory x found) c.in-Fault.is e in
    subst (λ (o : Option ScriptFault). IsHaltOfFault o c.fault_refusal.result) (sym it) (told-text _ c.fault_refusal.result c.fault_refusal.ensures)
