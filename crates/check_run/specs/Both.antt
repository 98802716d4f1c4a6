-- A script and a certificate that are both read whole.
use Rattle.std.specs.Prelude.{◌≡◌, ◌<◌, ℕ, List, [], ◌∷◌, Option, Some, None, IfSome, IsSome, length}
use Rattle.std.specs.declared.vec.Vec.{Vec}
use Rattle.std.specs.declared.alloc.Global.{Global}
use Rattle.desk.specs.Sight.{Sight, SideFailed}
use Rattle.command_line.specs.Words.{Resume}
use Rattle.script_reading.specs.Faults.{most_bytes, script_fault}
use Rattle.check_run.specs.declared.both.Inputs.{Inputs}
use Rattle.check_run.specs.declared.both.Unread.{Unread}
use Rattle.check_run.specs.declared.both.Unread.TheVariants as unread
use Rattle.desk.specs.declared.desk.Port.TheVariants.{CertIn}
use Rattle.check_run.specs.declared.status.Status.{Status}
use Rattle.check_run.specs.declared.status.Status.TheVariants.{InFailed, NoMemory}
use Rattle.check_run.specs.Course.{Course, Quiet}
use Rattle.check_run.specs.Can.{both_starts, CanBy, OfProblem}
use Rattle.check_run.specs.Parts.{After}
use Rattle.check_run.specs.Resumed.{CanResume}
use Rattle.check_run.specs.Run.{IsReadToEnd}
use Rattle.check_run.specs.Script.{script_start}

-- the script, unless it is too long
abbrev pub IsScriptHeld : Option (Vec ℕ Global) → List ℕ → Type 0
IsScriptHeld (Some held) script = held.items ≡ script
IsScriptHeld None script = most_bytes < length script

-- the script was read, to its end where it is not too long
pub record FetchesScript (name : List ℕ) (x : Option (Vec ℕ Global)) (old new : Sight) : Type 0 where
  pub after : After (script_start name) old new
  pub held : IfSome old.script (IsScriptHeld x)
  pub read : IsSome x → IfSome old.script (λ s. new.script ≡ Some [])
  pub other : new.cert_in ≡ old.cert_in
  pub parts : new.parts ≡ old.parts

abbrev pub HaltsScript : List ℕ → Unread → Sight → Sight → Type 0
HaltsScript name unread.Failed old new = SideFailed old.in_faults new.in_faults × Quiet (script_start name) old new
HaltsScript name unread.Memory old new = Quiet (script_start name) old new

-- the certificate was read to its end
pub record FetchesCert (name bytes : List ℕ) (old new : Sight) : Type 0 where
  pub after : After ((CertIn, name) ∷ []) old new
  pub held : IfSome old.cert_in (λ c. bytes ≡ c)
  pub read : IsReadToEnd old new
  pub other : new.script ≡ old.script

abbrev pub HaltsCert : List ℕ → Unread → Sight → Sight → Type 0
HaltsCert name unread.Failed old new = SideFailed old.in_faults new.in_faults × Quiet ((CertIn, name) ∷ []) old new
HaltsCert name unread.Memory old new = Quiet ((CertIn, name) ∷ []) old new

-- both were read; a script that is not too long to its end
pub record FetchesBoth (script cert : List ℕ) (x : Inputs) (old new : Sight) : Type 0 where
  pub after : After (both_starts script cert) old new
  pub script_is : IfSome old.script (IsScriptHeld x.script)
  pub script_read : IsSome x.script → IfSome old.script (λ s. new.script ≡ Some [])
  pub cert_is : IfSome old.cert_in (λ c. x.cert.items ≡ c)
  pub cert_read : IsReadToEnd old new

-- a port failed, or there was no memory
abbrev pub HaltsBoth : List ℕ → List ℕ → Unread → Sight → Sight → Type 0
HaltsBoth script cert unread.Failed old new = SideFailed old.in_faults new.in_faults × Quiet (both_starts script cert) old new
HaltsBoth script cert unread.Memory old new = Quiet (both_starts script cert) old new

-- what a run goes on to with these bytes
abbrev pub CanGoOn : Resume → List ℕ → List ℕ → Course → Type 0
CanGoOn words script cert_in = CanBy (script_fault words.bound script) (OfProblem words.bound script (λ p. CanResume p words.bound words cert_in))

-- the status of a run that ends so
abbrev pub status_of : Unread → Status
status_of unread.Failed = InFailed
status_of unread.Memory = NoMemory
