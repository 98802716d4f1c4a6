-- What a checker that is fed by pieces answers of all bytes.
use Rattle.std.specs.Prelude.{◌≡◌, ◌⊎◌, ◌<◌, ◌≤◌, ℕ, List, [], ◌++◌, true, false, Result, Err, Vec, length}
use Rattle.std.specs.declared.alloc.Global.{Global}
use Rattle.poly_graph.specs.ProblemViews.{problem_of}
use Rattle.cert_model.specs.Accepted.{verdict, most_bytes}
use Rattle.cert_check.specs.declared.checker.Verdict as told
use Rattle.cert_check.specs.declared.fault.CertFault.{CertFault}
use Rattle.cert_check.specs.declared.fault.CertFault.TheVariants.{Memory}
use Rattle.cert_check.specs.Checked.{Checked}
use Rattle.cert_check.specs.Courses.{IsCourseAnswer, Finishes, IsAt, IsCutOff, IsRefusal, IsVerdict}
use Rattle.cert_check.specs.Sessions.{FinishesAll, IsSessionVerdict}
use Rattle.cert_check.specs.Work.{work_verdict}

-- Where the input ends, what is answered is the verdict of its bytes, or out of memory.
abbrev pub VerdictIsTold : Type 0
VerdictIsTold = (c : Checked) (bytes : List ℕ) (r : Result told.Verdict CertFault) → length bytes ≤ most_bytes → IsAt c bytes true →
    c.checks.later ≡ [] → Finishes c.course r → (r ≡ Err Memory) ⊎ IsVerdict (verdict (problem_of c.checks.problem) c.checks.bound bytes) r

-- The same of several checks.
abbrev pub VerdictsAreTold : Type 0
VerdictsAreTold = (c : Checked) (bytes : List ℕ) (r : Result (Vec told.Verdict Global) CertFault) → length bytes ≤ most_bytes → IsAt c bytes true →
    FinishesAll c.course r → (r ≡ Err Memory) ⊎ IsSessionVerdict (work_verdict c.checks bytes) r

-- A fault of the bytes so far is that of all bytes, whatever follows.
abbrev pub FaultIsTold : Type 0
FaultIsTold = (c : Checked) (bytes rest : List ℕ) (f : CertFault) → length bytes ≤ most_bytes → IsAt c bytes false →
    IsCourseAnswer c.course (Err f) → (f ≡ Memory) ⊎ IsRefusal (work_verdict c.checks (bytes ++ rest)) f

-- Where more bytes follow than a certificate may have, no more of them are read.
abbrev pub TooLongIsTold : Type 0
TooLongIsTold = (c : Checked) (bytes rest : List ℕ) (f : CertFault) → length bytes ≡ most_bytes → 0 < length rest → IsAt c bytes false →
    IsCutOff c.course f → (f ≡ Memory) ⊎ IsRefusal (work_verdict c.checks (bytes ++ rest)) f
