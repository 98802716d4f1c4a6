-- A certificate that comes by pieces, and its verdict.
use Rattle.std.specs.Prelude.{◌≡◌, ◌⊎◌, ◌++◌, ℕ, List, [], ◌∷◌, Bool, true, Option, Result, Ok, Err, Vec}
use Rattle.std.specs.declared.alloc.Global.{Global}
use Rattle.poly_graph.specs.ProblemViews.{Parts, problem_of}
use Rattle.problem_session.specs.Session.{problems_of}
use Rattle.cert_model.specs.Accepted.{VerdictOf, Verdict, verdict}
use Rattle.cert_model.specs.Session.{SessionVerdict, session_verdict}
use Rattle.cert_check.specs.declared.checker.Verdict as code
use Rattle.cert_check.specs.declared.fault.CertFault.{CertFault}
use Rattle.cert_check.specs.declared.fault.CertFault.TheVariants.{Memory}
use Rattle.cert_check.specs.declared.feed.Feed.{Feed}
use Rattle.cert_check.specs.Checked.{Checked}
use Rattle.cert_check.specs.Courses.{IsAt, IsRefusal, IsVerdict}
use Rattle.cert_check.specs.Sessions.{AreChecksOf, IsSessionVerdict, HasTakenSession}

-- how many bytes were taken
abbrev pub bytes_taken : Feed → ℕ
bytes_taken f = f.taken

-- the fault, or no memory
abbrev pub IsRefusalOrMemory : {V : Type 0} → VerdictOf V → CertFault → Type 0
IsRefusalOrMemory v f = (f ≡ Memory) ⊎ IsRefusal v f

-- the verdict, or no memory
abbrev pub IsVerdictOrMemory : Verdict → Result code.Verdict CertFault → Type 0
IsVerdictOrMemory v (Ok w) = IsVerdict v (Ok w)
IsVerdictOrMemory v (Err f) = IsRefusalOrMemory v f

-- the verdicts, one for each check, or no memory
abbrev pub IsSessionVerdictOrMemory : SessionVerdict → Result (Vec code.Verdict Global) CertFault → Type 0
IsSessionVerdictOrMemory v (Ok ws) = IsSessionVerdict v (Ok ws)
IsSessionVerdictOrMemory v (Err f) = IsRefusalOrMemory v f

-- the same of the only check, whose problem this is
abbrev pub HasTaken : Parts → Option ℕ → List ℕ → Feed → Type 0
HasTaken p bound bytes f = HasTakenSession ((p, true) ∷ []) bound bytes f

-- these bytes are taken, or they have a fault, which is that of the certificate whatever follows
abbrev pub HasTakenOrFault : List (Parts × Bool) → Option ℕ → List ℕ → Feed → Result (Unit {0}) CertFault → Type 0
HasTakenOrFault session bound bytes new (Ok _) = HasTakenSession session bound bytes new
HasTakenOrFault session bound bytes new (Err f) = (rest : List ℕ) → IsRefusalOrMemory (session_verdict (problems_of session) bound (bytes ++ rest)) f

-- one more piece behind all that was taken
abbrev pub IsFedPiece : Feed → List ℕ → Feed → Result (Unit {0}) CertFault → Type 0
IsFedPiece old piece new r =
    (session : List (Parts × Bool)) (bound : Option ℕ) (bytes : List ℕ) → HasTakenSession session bound bytes old → HasTakenOrFault session bound (bytes ++ piece) new r

-- the last lines of what was taken are taken
abbrev pub IsEnded : Feed → Checked → Type 0
IsEnded old c = (session : List (Parts × Bool)) (bound : Option ℕ) (bytes : List ℕ) → HasTakenSession session bound bytes old → AreChecksOf session bound c.checks × IsAt c bytes true

-- the verdict of all that was taken, of the only check
abbrev pub IsVerdictOfTaken : Feed → Result code.Verdict CertFault → Type 0
IsVerdictOfTaken old r = (p : Parts) (bound : Option ℕ) (bytes : List ℕ) → HasTaken p bound bytes old → IsVerdictOrMemory (verdict (problem_of p) bound bytes) r

-- the verdicts of all that was taken, one for each check
abbrev pub IsSessionVerdictOfTaken : Feed → Result (Vec code.Verdict Global) CertFault → Type 0
IsSessionVerdictOfTaken old r =
    (session : List (Parts × Bool)) (bound : Option ℕ) (bytes : List ℕ) → HasTakenSession session bound bytes old → IsSessionVerdictOrMemory (session_verdict (problems_of session) bound bytes) r
