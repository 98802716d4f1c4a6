-- A certificate that is read from its port, and its verdicts.
use Rattle.std.specs.Prelude.{◌≡◌, ◌<◌, ℕ, List, [], ◌∷◌, length, Bool, Option, Some, None, IfSome, Result, Ok, Err, Vec, map}
use Rattle.std.specs.declared.alloc.Global.{Global}
use Rattle.desk.specs.declared.desk.Port.TheVariants.{CertIn}
use Rattle.desk.specs.Sight.{Sight}
use Rattle.desk.specs.Texts.{ReadsSome, ReadsThenFails}
use Rattle.poly_graph.specs.ProblemViews.{Parts}
use Rattle.problem_session.specs.Session.{problems_of}
use Rattle.cover_model.specs.State.{Loosenings}
use Rattle.cert_model.specs.Accepted.{accepted, refused}
use Rattle.cert_model.specs.AnswerText.{check_text}
use Rattle.cert_model.specs.Due.{Value}
use Rattle.cert_model.specs.Session.{SessionVerdict, session_verdict}
use Rattle.cert_check.specs.declared.checker.Verdict.{Verdict}
use Rattle.cert_check.specs.declared.fault.CertFault.{CertFault}
use Rattle.cert_check.specs.Courses.{verdict_of}
use Rattle.cert_check.specs.Feeding.{IsRefusalOrMemory, IsSessionVerdictOrMemory}
use Rattle.cert_check.specs.Sessions.{IsSessionVerdict}
use Rattle.check_run.specs.declared.check.Unconfirmed.{Unconfirmed}
use Rattle.check_run.specs.declared.check.Unconfirmed.TheVariants.{Fault, Failed}
use Rattle.check_run.specs.declared.status.Status.{Status}
use Rattle.check_run.specs.Course.{Course, RunEnds}
use Rattle.check_run.specs.Can.{CanCheck, check_texts, verdict_course}
use Rattle.check_run.specs.Run.{IsReadToEnd}

-- one verdict for each check, or why there are none
abbrev pub Told : Type 0
Told = Result (Vec Verdict Global) Unconfirmed

-- the verdicts of the port's certificate, where the port did not fail
abbrev pub IsVerdictOnPort : SessionVerdict → Told → Type 0
IsVerdictOnPort v (Ok ws) = IsSessionVerdict v (Ok ws)
IsVerdictOnPort v (Err (Fault f)) = IsRefusalOrMemory v f
IsVerdictOnPort v (Err Failed) = Unit {0}

-- those of the certificate that the port holds, for these checks and this bound
abbrev pub IsVerdictFor : List (Parts × Bool) → Option ℕ → Sight → Told → Type 0
IsVerdictFor session bound old r = IfSome old.cert_in (λ cert. IsVerdictOnPort (session_verdict (problems_of session) bound cert) r)

-- what was read of it: all where it is confirmed
abbrev pub IsReadFor : Told → Sight → Sight → Type 0
IsReadFor (Ok ws) old new = ReadsSome CertIn old new × IsReadToEnd old new
IsReadFor (Err (Fault f)) old new = ReadsSome CertIn old new
IsReadFor (Err Failed) old new = ReadsThenFails CertIn old new

-- the one course of a verdict
abbrev pub IsCourseOf : SessionVerdict → Course → Type 0
IsCourseOf v course = course ≡ verdict_course v

-- the text of the answer for one check
abbrev pub IsConfirmation : Verdict → List ℕ → Type 0
IsConfirmation w text = (s : Loosenings) (v : Value) → w ≡ verdict_of s v → text ≡ check_text s v

-- the text of the answer that confirms a certificate
abbrev pub AreConfirmations : List Verdict → List ℕ → Type 0
AreConfirmations ws text = (s : Loosenings) (values : List Value) → ws ≡ map (verdict_of s) values → text ≡ check_texts s values

abbrev pub EndsOnVerdict : Result (Vec Verdict Global) CertFault → Sight → Sight → Status → Type 0
EndsOnVerdict r old new status = (v : SessionVerdict) → IsSessionVerdictOrMemory v r → RunEnds (IsCourseOf v) [] old new status

-- a fault, on whatever line
abbrev pub IsRefused : SessionVerdict → Type 0
IsRefused (accepted s values) = ⊥
IsRefused (refused fault line) = Unit {0}

-- the course of any verdict with this fault, which refuses
abbrev pub IsRefusalOf : CertFault → Course → Type 0
IsRefusalOf fault course = (v : SessionVerdict) → IsRefusalOrMemory v fault → IsRefused v × (course ≡ verdict_course v)

-- the run ends on it
abbrev pub EndsOnFault : CertFault → Sight → Sight → Status → Type 0
EndsOnFault fault old new status = RunEnds (IsRefusalOf fault) [] old new status

-- the atom of a goal is one of the only check's problem
abbrev pub IsGoalOf : Option ℕ → List (Parts × Bool) → Type 0
IsGoalOf None session = Unit {0}
IsGoalOf (Some g) ((p, e) ∷ []) = g < length p.atoms
IsGoalOf (Some g) session = ⊥

-- a run ends behind its problems, where the port shows a certificate
abbrev pub EndsOnCheck : Option ℕ → List (Parts × Bool) → Option ℕ → List ℕ → Sight → Sight → Status → Type 0
EndsOnCheck goal session bound name old new status =
    IfSome old.cert_in (λ cert. RunEnds (CanCheck goal (problems_of session) bound name cert) ((CertIn, name) ∷ []) old new status)
