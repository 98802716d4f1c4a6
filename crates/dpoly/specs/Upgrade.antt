-- A certificate that is read from its port, kept, and written in the newest version.
use Rattle.std.specs.Prelude.{◌≡◌, ◌≤◌, ℕ, List, [], ◌∷◌, Bool, Option, IfSome, Result, Ok, Err, length}
use Rattle.std.specs.declared.vec.Vec.{Vec}
use Rattle.std.specs.declared.alloc.Global.{Global}
use Rattle.desk.specs.declared.desk.Port.TheVariants.{CertIn}
use Rattle.desk.specs.Sight.{Sight}
use Rattle.desk.specs.Texts.{ReadsSome, ReadsThenFails}
use Rattle.poly_graph.specs.Problem.{Problem}
use Rattle.poly_graph.specs.ProblemViews.{Parts, problem_of}
use Rattle.problem_session.specs.Session.{problems_of}
use Rattle.cert_model.specs.Accepted.{VerdictOf, accepted, refused, most_bytes}
use Rattle.cert_model.specs.Least.{goal_verdict}
use Rattle.cert_model.specs.Session.{session_verdict}
use Rattle.goal_limit.specs.Limits.{has_room}
use Rattle.cert_check.specs.Feeding.{IsRefusalOrMemory}
use Rattle.cert_upgrade.specs.Upgraded.{upgraded}
use Rattle.check_run.specs.declared.check.Unconfirmed.{Unconfirmed}
use Rattle.check_run.specs.declared.check.Unconfirmed.TheVariants.{Fault, Failed}
use Rattle.check_run.specs.declared.status.Status.{Status}
use Rattle.check_run.specs.Course.{Course, RunEnds, behind, gives}
use Rattle.check_run.specs.Can.{CanUpgrade, CanUpgradeOfGoal, upgraded_text}
use Rattle.check_run.specs.Run.{IsReadToEnd}

-- accepted, with whatever value
abbrev pub IsConfirmed : {V : Type 0} → VerdictOf V → Type 0
IsConfirmed (accepted s v) = Unit {0}
IsConfirmed (refused fault line) = ⊥

-- these bytes are the certificate, which is accepted
pub record IsKept (ps : List (Problem × Bool)) (bound : Option ℕ) (kept cert : List ℕ) : Type 0 where
  pub same : kept ≡ cert
  pub confirmed : IsConfirmed (session_verdict ps bound cert)

-- the certificate that the port holds, for these checks and this bound: kept where it is accepted, else its fault
abbrev pub IsKeptFor : List (Parts × Bool) → Option ℕ → Sight → Result (Vec ℕ Global) Unconfirmed → Type 0
IsKeptFor session bound old (Ok kept) = IfSome old.cert_in (IsKept (problems_of session) bound kept.items)
IsKeptFor session bound old (Err (Fault f)) = IfSome old.cert_in (λ cert. IsRefusalOrMemory (session_verdict (problems_of session) bound cert) f)
IsKeptFor session bound old (Err Failed) = Unit {0}

-- what was read of it: all where it is kept
abbrev pub IsReadAsKept : Result (Vec ℕ Global) Unconfirmed → Sight → Sight → Type 0
IsReadAsKept (Ok kept) old new = ReadsSome CertIn old new × IsReadToEnd old new
IsReadAsKept (Err (Fault f)) old new = ReadsSome CertIn old new
IsReadAsKept (Err Failed) old new = ReadsThenFails CertIn old new

-- the one course of a certificate that was kept
pub record IsUpgradeOf (name kept : List ℕ) (course : Course) : Type 0 where
  pub fits : length (upgraded kept) ≤ most_bytes
  pub same : course ≡ gives name (upgraded kept) upgraded_text

-- the run ends on it
abbrev pub EndsOnUpgraded : List ℕ → List ℕ → Sight → Sight → Status → Type 0
EndsOnUpgraded name kept old new status = RunEnds (IsUpgradeOf name kept) [] old new status

-- a run ends behind its problems, where the port shows a certificate
abbrev pub EndsOnUpgrade : Option ℕ → List (Parts × Bool) → Option ℕ → List ℕ → List ℕ → Sight → Sight → Status → Type 0
EndsOnUpgrade goal session bound name out old new status =
    IfSome old.cert_in (λ cert. RunEnds (CanUpgrade goal (problems_of session) bound name out cert) ((CertIn, name) ∷ []) old new status)

-- ---- a script with one check, whose goal is the term of atom g

-- these bytes are the certificate, which is accepted
pub record IsGoalKept (p : Problem) (g : ℕ) (bound : Option ℕ) (kept cert : List ℕ) : Type 0 where
  pub same : kept ≡ cert
  pub confirmed : IsConfirmed (goal_verdict p g (has_room p) bound cert)

-- the certificate that the port holds: kept where it is accepted, else its fault
abbrev pub IsGoalKeptFor : Parts → ℕ → Option ℕ → Sight → Result (Vec ℕ Global) Unconfirmed → Type 0
IsGoalKeptFor p g bound old (Ok kept) = IfSome old.cert_in (IsGoalKept (problem_of p) g bound kept.items)
IsGoalKeptFor p g bound old (Err (Fault f)) = IfSome old.cert_in (λ cert. IsRefusalOrMemory (goal_verdict (problem_of p) g (has_room (problem_of p)) bound cert) f)
IsGoalKeptFor p g bound old (Err Failed) = Unit {0}

-- the courses of a certificate behind the start of its port
abbrev pub CanUpgradeGoal : Problem → ℕ → Option ℕ → List ℕ → List ℕ → List ℕ → Course → Type 0
CanUpgradeGoal p g bound name out cert_in course =
    (tail : Course) × CanUpgradeOfGoal (goal_verdict p g (has_room p) bound cert_in) p g bound out cert_in tail × (course ≡ behind ((CertIn, name) ∷ []) tail)

-- a run ends behind its problem, where the port shows a certificate
abbrev pub EndsOnGoalUpgrade : Parts → ℕ → Option ℕ → List ℕ → List ℕ → Sight → Sight → Status → Type 0
EndsOnGoalUpgrade p g bound name out old new status =
    IfSome old.cert_in (λ cert. RunEnds (CanUpgradeGoal (problem_of p) g bound name out cert) ((CertIn, name) ∷ []) old new status)
