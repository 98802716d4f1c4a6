-- A certificate of a script with a goal that comes by pieces, and its verdict.
use Rattle.std.specs.Prelude.{◌≡◌, ◌++◌, ℕ, List, false, true, Option, Result, Ok, Err, length}
use Rattle.poly_graph.specs.ProblemViews.{Parts, problem_of}
use Rattle.goal_limit.specs.Limits.{has_room}
use Rattle.cert_model.specs.Least.{GoalVerdict, goal_verdict}
use Rattle.cert_check.specs.declared.fault.CertFault.{CertFault}
use Rattle.cert_check.specs.Feeding.{IsRefusalOrMemory}
use Rattle.cert_least.specs.declared.verdict.GoalVerdict as code
use Rattle.cert_least.specs.declared.feed.GoalFeed.{GoalFeed}
use Rattle.cert_least.specs.Aims.{Aim, aim_verdict}
use Rattle.cert_least.specs.Checked.{GoalChecked, aim_at}
use Rattle.cert_least.specs.Courses.{IsAt, IsFed, IsVerdict}

-- how many bytes were taken
abbrev pub bytes_taken : GoalFeed → ℕ
bytes_taken f = f.taken

-- the verdict, or no memory
abbrev pub IsVerdictOrMemory : Aim → GoalVerdict → Result code.GoalVerdict CertFault → Type 0
IsVerdictOrMemory a v (Ok w) = IsVerdict a v (Ok w)
IsVerdictOrMemory a v (Err f) = IsRefusalOrMemory v f

-- a checker with this aim was fed these bytes, and met no fault in them
pub record HasTakenFor (a : Aim) (bytes : List ℕ) (f : GoalFeed) : Type 0 where
  pub aim : f.checker.aim ≡ a
  pub fed : IsFed bytes f.checker f.reader.unread
  pub at : IsAt f.checker bytes false
  pub unended : f.reader.ended ≡ false
  pub count : f.taken ≡ length bytes

-- the same of the problem of the only check, whose goal is the term of this atom
abbrev pub HasTaken : Parts → ℕ → Option ℕ → List ℕ → GoalFeed → Type 0
HasTaken p g bound bytes f = HasTakenFor (aim_at p g bound) bytes f

-- these bytes are taken, or they have a fault, which is that of the certificate whatever follows
abbrev pub HasTakenOrFault : Aim → List ℕ → GoalFeed → Result (Unit {0}) CertFault → Type 0
HasTakenOrFault a bytes new (Ok _) = HasTakenFor a bytes new
HasTakenOrFault a bytes new (Err f) = (rest : List ℕ) → IsRefusalOrMemory (aim_verdict a (bytes ++ rest)) f

-- one more piece behind all that was taken
abbrev pub IsFedPiece : GoalFeed → List ℕ → GoalFeed → Result (Unit {0}) CertFault → Type 0
IsFedPiece old piece new r = (a : Aim) (bytes : List ℕ) → HasTakenFor a bytes old → HasTakenOrFault a (bytes ++ piece) new r

-- the last lines of what was taken are taken
abbrev pub IsEnded : GoalFeed → GoalChecked → Type 0
IsEnded old c = (a : Aim) (bytes : List ℕ) → HasTakenFor a bytes old → (c.aim ≡ a) × IsAt c bytes true

-- the verdict of all that was taken
abbrev pub IsVerdictOfTaken : GoalFeed → Result code.GoalVerdict CertFault → Type 0
IsVerdictOfTaken old r =
    (p : Parts) (g : ℕ) (bound : Option ℕ) (bytes : List ℕ) → HasTaken p g bound bytes old → IsVerdictOrMemory (aim_at p g bound) (goal_verdict (problem_of p) g (has_room (problem_of p)) bound bytes) r
