-- A run of the program, and what holds of it.
use Rattle.std.specs.Prelude.{◌≡◌, ◌≢◌, ◌⊎◌, ◌≤◌, ℕ, List, [], Option, Some, None, IsSome, length, map, string_bytes}
use Rattle.std.specs.Option.{option_map}
use Rattle.std.specs.declared.alloc.Global.{Global}
use Rattle.std.specs.declared.string.String.{String}
use Rattle.desk.specs.Sight.{Sight, SideFailed}
use Rattle.command_line.specs.Words.{Command, Solve, Minimize, Check, Demo, Upgrade, Plan, Resume, Join, command_of, solve, minimize, check, demo, upgrade, plan, resume, join}
use Rattle.command_line.specs.Seen.{seen, seen_solve, seen_minimize, seen_check, seen_demo, seen_upgrade, seen_plan, seen_resume, seen_join}
use Rattle.command_line.specs.declared.request.Request.{Request}
use Rattle.command_line.specs.declared.request.SolveWords.{SolveWords}
use Rattle.command_line.specs.declared.request.MinimizeWords.{MinimizeWords}
use Rattle.command_line.specs.declared.request.CheckWords.{CheckWords}
use Rattle.command_line.specs.declared.request.DemoWords.{DemoWords}
use Rattle.command_line.specs.declared.request.UpgradeWords.{UpgradeWords}
use Rattle.command_line.specs.declared.request.PlanWords.{PlanWords}
use Rattle.command_line.specs.declared.request.ResumeWords.{ResumeWords}
use Rattle.command_line.specs.declared.request.JoinWords.{JoinWords}
use Rattle.check_run.specs.declared.status.Status.{Status}
use Rattle.check_run.specs.declared.status.Status.TheVariants.{Answered, CertRefused, ScriptRefused, Usage, InFailed, OutFailed, NoMemory}
use Rattle.script_reading.specs.Faults.{most_bytes}
use Rattle.check_run.specs.Course.{Course, HasDraft, Went, Stopped, Quiet, RunEnds}
use Rattle.check_run.specs.Can.{Can, in_starts}

-- ---- runs

-- A run: what its words ask for, or none where they are refused; what its desk shows as it begins and as it ends; its status.
pub record Run : Type 0 where
  pub command : Option Command
  pub old : Sight
  pub new : Sight
  pub status : Status

abbrev pub run_of : Option Command → Sight → Sight → Status → Run
run_of command old new status = record { command = command; old = old; new = new; status = status }

-- what the words of a call ask for
abbrev pub command_in : List (String Global) → Option Command
command_in words = command_of (map string_bytes words)

-- the run of these words
abbrev pub run : List (String Global) → Sight → Sight → Status → Run
run words = run_of (command_in words)

-- the runs of words that were read
abbrev pub solve_run : SolveWords → Sight → Sight → Status → Run
solve_run words = run_of (Some (solve (seen_solve words)))

abbrev pub minimize_run : MinimizeWords → Sight → Sight → Status → Run
minimize_run words = run_of (Some (minimize (seen_minimize words)))

abbrev pub check_run : CheckWords → Sight → Sight → Status → Run
check_run words = run_of (Some (check (seen_check words)))

abbrev pub upgrade_run : UpgradeWords → Sight → Sight → Status → Run
upgrade_run words = run_of (Some (upgrade (seen_upgrade words)))

abbrev pub plan_run : PlanWords → Sight → Sight → Status → Run
plan_run words = run_of (Some (plan (seen_plan words)))

abbrev pub resume_run : ResumeWords → Sight → Sight → Status → Run
resume_run words = run_of (Some (resume (seen_resume words)))

abbrev pub join_run : JoinWords → Sight → Sight → Status → Run
join_run words = run_of (Some (join (seen_join words)))

abbrev pub demo_run : DemoWords → Sight → Sight → Status → Run
demo_run words = run_of (Some (demo (seen_demo words)))

abbrev pub asked_run : Request → Sight → Sight → Status → Run
asked_run words = run_of (Some (seen words))

abbrev pub ReadsCert : Option Command → Type 0
ReadsCert (Some (check words)) = Unit {0}
ReadsCert (Some (upgrade words)) = Unit {0}
ReadsCert (Some (resume words)) = Unit {0}
ReadsCert _ = ⊥

-- one certificate or several
abbrev pub TakesCerts : Option Command → Type 0
TakesCerts (Some (join words)) = Unit {0}
TakesCerts command = ReadsCert command

abbrev pub ReadsScript : Option Command → Type 0
ReadsScript (Some (solve words)) = Unit {0}
ReadsScript (Some (minimize words)) = Unit {0}
ReadsScript (Some (check words)) = Unit {0}
ReadsScript (Some (upgrade words)) = Unit {0}
ReadsScript (Some (plan words)) = Unit {0}
ReadsScript (Some (resume words)) = Unit {0}
ReadsScript (Some (join words)) = Unit {0}
ReadsScript _ = ⊥

-- ---- what holds whatever the desk shows

-- what can cause a status
abbrev pub IsCauseOf : Status → Run → Type 0
IsCauseOf Answered r = IsSome r.command
IsCauseOf CertRefused r = TakesCerts r.command
IsCauseOf ScriptRefused r = ReadsScript r.command
IsCauseOf Usage r = r.command ≡ None
IsCauseOf InFailed r = ReadsScript r.command × SideFailed r.old.in_faults r.new.in_faults
IsCauseOf OutFailed r = SideFailed r.old.out_faults r.new.out_faults
IsCauseOf NoMemory r = Unit {0}

-- the run's status has a cause
abbrev pub HasCause : Run → Type 0
HasCause r = IsCauseOf r.status r

-- the same whatever the words are
abbrev pub SolveHasCause : Sight → Sight → Status → Type 0
SolveHasCause old new status = (words : Solve) → HasCause (run_of (Some (solve words)) old new status)

abbrev pub MinimizeHasCause : Sight → Sight → Status → Type 0
MinimizeHasCause old new status = (words : Minimize) → HasCause (run_of (Some (minimize words)) old new status)

abbrev pub CheckHasCause : Sight → Sight → Status → Type 0
CheckHasCause old new status = (words : Check) → HasCause (run_of (Some (check words)) old new status)

abbrev pub UpgradeHasCause : Sight → Sight → Status → Type 0
UpgradeHasCause old new status = (words : Upgrade) → HasCause (run_of (Some (upgrade words)) old new status)

abbrev pub PlanHasCause : Sight → Sight → Status → Type 0
PlanHasCause old new status = (words : Plan) → HasCause (run_of (Some (plan words)) old new status)

abbrev pub ResumeHasCause : Sight → Sight → Status → Type 0
ResumeHasCause old new status = (words : Resume) → HasCause (run_of (Some (resume words)) old new status)

abbrev pub JoinHasCause : Sight → Sight → Status → Type 0
JoinHasCause old new status = (words : Join) → HasCause (run_of (Some (join words)) old new status)

abbrev pub DemoHasCause : Sight → Sight → Status → Type 0
DemoHasCause old new status = (words : Demo) → HasCause (run_of (Some (demo words)) old new status)

-- the in ports are as they were
pub record SameIn (old new : Sight) : Type 0 where
  pub script : new.script ≡ old.script
  pub cert_in : new.cert_in ≡ old.cert_in
  pub parts : new.parts ≡ old.parts
  pub in_faults : new.in_faults ≡ old.in_faults

-- a script that is not too long was read to its end, unless the in side failed or there was no memory
abbrev pub ScriptIsRead : Run → Type 0
ScriptIsRead r =
    ReadsScript r.command → (script : List ℕ) → r.old.script ≡ Some script → length script ≤ most_bytes
    → r.status ≢ InFailed → r.status ≢ NoMemory → r.new.script ≡ Some []

-- the certificate was read to its end
abbrev pub IsReadToEnd : Sight → Sight → Type 0
IsReadToEnd old new = new.cert_in ≡ option_map (λ cert. []) old.cert_in

-- a certificate that is confirmed, written again, or goes on, was read to its end
abbrev pub CertIsRead : Run → Type 0
CertIsRead r = ReadsCert r.command → r.status ≡ Answered → IsReadToEnd r.old r.new

-- ---- what holds of each script and of all certificates that the desk shows

-- the desk shows what the command reads
abbrev pub HasInput : Option Command → Sight → List ℕ → List ℕ → List (List ℕ) → Type 0
HasInput (Some (solve words)) d script cert_in parts = d.script ≡ Some script
HasInput (Some (minimize words)) d script cert_in parts = d.script ≡ Some script
HasInput (Some (check words)) d script cert_in parts = (d.script ≡ Some script) × (d.cert_in ≡ Some cert_in)
HasInput (Some (upgrade words)) d script cert_in parts = (d.script ≡ Some script) × (d.cert_in ≡ Some cert_in)
HasInput (Some (plan words)) d script cert_in parts = d.script ≡ Some script
HasInput (Some (resume words)) d script cert_in parts = (d.script ≡ Some script) × (d.cert_in ≡ Some cert_in)
HasInput (Some (join words)) d script cert_in parts = (d.script ≡ Some script) × (d.parts ≡ Some parts) × (length parts ≡ length words.certs)
HasInput _ d script cert_in parts = Unit {0}

abbrev pub OnInput : Run → (List ℕ → List ℕ → List (List ℕ) → Type 0) → Type 0
OnInput r P = (script cert_in : List ℕ) (parts : List (List ℕ)) → HasInput r.command r.old script cert_in parts → P script cert_in parts

-- the run ends on one of its courses, or before any
abbrev pub HasCourse : Run → Type 0
HasCourse r = OnInput r (λ script cert_in parts. RunEnds (Can r.command script cert_in parts) (in_starts r.command) r.old r.new r.status)

-- What each status shows: a failed in side before any byte is written; a failed out side on the way of a course, or before any where the
-- command writes a draft; without memory either; and every other status a course of that status, gone to its end.
abbrev pub IsShown : Option Command → List ℕ → List ℕ → List (List ℕ) → Sight → Sight → Status → Type 0
IsShown command script cert_in parts old new InFailed = (in_starts command ≢ []) × SideFailed old.in_faults new.in_faults × Quiet (in_starts command) old new
IsShown command script cert_in parts old new OutFailed =
    SideFailed old.out_faults new.out_faults
    × ((HasDraft (in_starts command) × Quiet (in_starts command) old new) ⊎ ((course : Course) × Can command script cert_in parts course × Stopped course old new))
IsShown command script cert_in parts old new NoMemory =
    Quiet (in_starts command) old new ⊎ ((course : Course) × Can command script cert_in parts course × Stopped course old new)
IsShown command script cert_in parts old new status = (course : Course) × Can command script cert_in parts course × (course.status ≡ status) × Went course old new

abbrev pub StatusIsShown : Run → Type 0
StatusIsShown r = OnInput r (λ script cert_in parts. IsShown r.command script cert_in parts r.old r.new r.status)

-- where neither side fails and each course of the run ends with one status, so does the run, or there was no memory
abbrev pub IsDue : Run → List ℕ → List ℕ → List (List ℕ) → Type 0
IsDue r script cert_in parts =
    (due : Status) → ((course : Course) → Can r.command script cert_in parts course → course.status ≡ due)
    → (SideFailed r.old.in_faults r.new.in_faults → ⊥) → (SideFailed r.old.out_faults r.new.out_faults → ⊥)
    → (r.status ≡ due) ⊎ (r.status ≡ NoMemory)

abbrev pub StatusIsDue : Run → Type 0
StatusIsDue r = OnInput r (IsDue r)
