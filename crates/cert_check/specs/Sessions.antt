-- What a checker of several checks answers.
use Rattle.std.specs.Prelude.{◌≡◌, ◌⊎◌, ℕ, List, [], ◌∷◌, map, length, Bool, false, Option, Some, None, Result, Ok, Err, Vec}
use Rattle.std.specs.declared.alloc.Global.{Global}
use Rattle.poly_graph.specs.ProblemViews.{Parts}
use Rattle.cert_model.specs.Accepted.{accepted}
use Rattle.cert_model.specs.Session.{SessionVerdict}
use Rattle.cert_check.specs.declared.checker.Verdict.{Verdict}
use Rattle.cert_check.specs.declared.fault.CertFault.{CertFault}
use Rattle.cert_check.specs.declared.fault.CertFault.TheVariants.{Memory}
use Rattle.cert_check.specs.declared.feed.Feed.{Feed}
use Rattle.cert_check.specs.Checked.{Checked, fresh}
use Rattle.cert_check.specs.Courses.{IsAt, IsFed, IsRefusal, verdict_of}
use Rattle.cert_check.specs.Work.{Checks, WorkCourse, work_ended}

-- these are the checks of a session, of which there is one at least
abbrev pub AreChecksOf : List (Parts × Bool) → Option ℕ → Checks → Type 0
AreChecksOf [] bound c = ⊥
AreChecksOf ((p, e) ∷ later) bound c = c ≡ record { problem = p; later = later; bound = bound }

-- no line was taken yet of a certificate of these checks
pub record IsFreshFor (session : List (Parts × Bool)) (bound : Option ℕ) (c : Checked) : Type 0 where
  pub checks : AreChecksOf session bound c.checks
  pub is_fresh : c ≡ fresh c.checks

-- one verdict for each check, or the fault with its line
abbrev pub IsSessionVerdict : SessionVerdict → Result (Vec Verdict Global) CertFault → Type 0
IsSessionVerdict (accepted s values) (Ok ws) = ws.items ≡ map (verdict_of s) values
IsSessionVerdict v (Ok ws) = ⊥
IsSessionVerdict v (Err e) = IsRefusal v e

-- the input ends; memory may run out as the verdicts are listed
abbrev pub FinishesAll : Option WorkCourse → Result (Vec Verdict Global) CertFault → Type 0
FinishesAll None r = r ≡ Err Memory
FinishesAll (Some c) r = (r ≡ Err Memory) ⊎ IsSessionVerdict (work_ended c) r

-- a checker for these checks was fed these bytes, and met no fault in them
pub record HasTakenSession (session : List (Parts × Bool)) (bound : Option ℕ) (bytes : List ℕ) (f : Feed) : Type 0 where
  pub checks : AreChecksOf session bound f.checker.checks
  pub fed : IsFed bytes f.checker f.reader.unread
  pub at : IsAt f.checker bytes false
  pub unended : f.reader.ended ≡ false
  pub count : f.taken ≡ length bytes
