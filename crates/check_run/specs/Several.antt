-- A script that is read whole, the starts of several certificates, and a draft of the one that is written.
use Rattle.std.specs.Prelude.{◌≡◌, ◌++◌, ◌≤◌, ℕ, List, [], Option, Some, IfSome, IsSome, length}
use Rattle.std.specs.declared.vec.Vec.{Vec}
use Rattle.std.specs.declared.alloc.Global.{Global}
use Rattle.desk.specs.Draft.{IsBegun, IsDrafted}
use Rattle.desk.specs.Sight.{Sight, SideFailed}
use Rattle.command_line.specs.Words.{Join}
use Rattle.cover_model.specs.State.{Loosenings}
use Rattle.cert_model.specs.Due.{Value}
use Rattle.cert_model.specs.AnswerText.{check_text}
use Rattle.cert_check.specs.declared.checker.Verdict as told
use Rattle.cert_check.specs.declared.fault.CertFault.{CertFault}
use Rattle.cert_check.specs.Courses.{verdict_of}
use Rattle.cert_check.specs.Faults.{stop_of}
use Rattle.script_reading.specs.Faults.{most_bytes, script_fault}
use Rattle.check_run.specs.declared.status.Status.{Status}
use Rattle.check_run.specs.declared.status.Status.TheVariants.{InFailed, OutFailed, NoMemory}
use Rattle.check_run.specs.Both.{IsScriptHeld}
use Rattle.check_run.specs.Can.{CanBy, OfProblem}
use Rattle.check_run.specs.Course.{Course, Start, StartedEnds, Quiet, appended}
use Rattle.check_run.specs.Joined.{CanJoin, join_starts, keeps, part_line, several_starts}
use Rattle.check_run.specs.Parts.{After}
use Rattle.check_run.specs.Stops.{stop_text}

-- ---- starts

-- these starts were made, and nothing else changed
abbrev pub Starts : List Start → Sight → Sight → Type 0
Starts starts old new = new ≡ record old { starts = appended old.starts starts }

-- A run halts before its courses with this status: the in side failed, the draft could not be written, or there is no memory.
abbrev pub IsHalted : List Start → Status → Sight → Sight → Type 0
IsHalted starts InFailed old new = SideFailed old.in_faults new.in_faults × Quiet starts old new
IsHalted starts OutFailed old new = SideFailed old.out_faults new.out_faults × Quiet starts old new
IsHalted starts NoMemory old new = Quiet starts old new
IsHalted starts _ old new = ⊥

-- the ports of the certificates and an empty draft were started
pub record StartsSeveral (names : List (List ℕ)) (out : List ℕ) (old new : Sight) : Type 0 where
  pub after : After (several_starts names out) old new
  pub script : new.script ≡ old.script
  pub parts : new.parts ≡ old.parts
  pub begun : IsBegun new

-- and before that the script was read, to its end where it is not too long
pub record FetchesSeveral (words : Join) (x : Option (Vec ℕ Global)) (old new : Sight) : Type 0 where
  pub after : After (join_starts words) old new
  pub script_is : IfSome old.script (IsScriptHeld x)
  pub script_read : IsSome x → IfSome old.script (λ s. new.script ≡ Some [])
  pub parts : new.parts ≡ old.parts
  pub begun : IsBegun new

-- It halts before: the script was read, to its end where it is not too long, unless the in side failed or there is no memory.
pub record HaltsSeveral (words : Join) (status : Status) (old new : Sight) : Type 0 where
  pub halted : IsHalted (join_starts words) status old new
  pub read : status ≡ OutFailed → IfSome old.script (λ s. length s ≤ most_bytes → new.script ≡ Some [])

-- ---- answers

-- the text tells the fault of certificate k
pub record TellsPart (k : ℕ) (fault : CertFault) (text : List ℕ) : Type 0 where
  pub said : List ℕ
  pub fault_is : stop_text (stop_of fault) ≡ Some said
  pub text_is : text ≡ part_line k ++ said

-- a run ends that keeps what was drafted since some sight, and answers its verdict
abbrev pub EndsKept : told.Verdict → Sight → Sight → Status → Type 0
EndsKept w mid new status =
    (old : Sight) (text : List ℕ) (s : Loosenings) (v : Value) → IsDrafted old text mid → w ≡ verdict_of s v → StartedEnds (λ course. course ≡ keeps text (check_text s v)) old new status

-- what a run goes on to behind all starts
abbrev pub CanJoinOn : Option ℕ → List ℕ → List (List ℕ) → Course → Type 0
CanJoinOn bound script parts = CanBy (script_fault bound script) (OfProblem bound script (λ p. CanJoin p bound parts))
