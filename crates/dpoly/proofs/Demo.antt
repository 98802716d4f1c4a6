-- The demo's script is never refused.
use Rattle.std.proofs.Common.{◌≡◌, ◌≤◌, ℕ, List, Option, None, subst}
use Rattle.script_fault.specs.Answers.{IsFaultOrMemory}
use Rattle.script_fault.specs.declared.fault.ReadError.TheVariants.{Fault}
use Rattle.script_fault.specs.declared.fault.ScriptFault.{ScriptFault}
use Rattle.script_reading.specs.Faults.{script_fault}
use Rattle.gen_script.specs.Demo.{demo_script}
use Rattle.demo_law.proofs.Faultless.{demo_is_faultless}

has_none : (fault : ScriptFault) → IsFaultOrMemory (Fault fault) None → ⊥
has_none fault h = absurd (cc)

pub never_refused : (bound : Option ℕ) (seed size : ℕ) (bytes : List ℕ) (fault : ScriptFault) → size ≤ 10000 → bytes ≡ demo_script seed size → IsFaultOrMemory (Fault fault) (script_fault bound bytes) → ⊥
never_refused bound seed size bytes fault small made has =
    has_none fault (subst (λ f. IsFaultOrMemory (Fault fault) f) (demo_is_faultless bound seed size small) (subst (λ b. IsFaultOrMemory (Fault fault) (script_fault bound b)) made has))
