-- What comes of one line.
use Rattle.std.specs.Prelude.{◌≡◌, ◌⊎◌, ℕ, false, true, cond, Option, Some, None, Result, Ok, Err, option_map}
use Rattle.dyadic.specs.Rounding.{Dyadic}
use Rattle.dyadic.specs.declared.dy.Dy.{Dy}
use Rattle.poly_graph.specs.Problem.{Problem}
use Rattle.poly_graph.specs.ProblemViews.{Parts, problem_of}
use Rattle.cover_line.specs.Words.{word_of}
use Rattle.cover_model.specs.Rules.{Line}
use Rattle.cover_model.specs.State as state
use Rattle.cover_model.specs.State.{atom_enclosure}
use Rattle.interval_model.specs.Interval.{Interval}
use Rattle.interval_model.specs.Space.{Space}
use Rattle.cert_read.specs.CertLine.{CertLine, goal, over, point_word, Parsed, line}
use Rattle.cert_model.specs.Due.{Due, kind_due, NextOf, on, faulty, RuleFails, BadNumber, names_well}
use Rattle.cert_model.specs.Due as due
use Rattle.cert_model.specs.Accepted.{next, stopped}
use Rattle.goal_limit.specs.Limits.{has_room}
use Rattle.cert_model.specs.Least.{GoalCourse, GoalNext, can_limit, searched, tree_space}
use Rattle.cert_check.specs.declared.fault.CertFault.{CertFault}
use Rattle.cert_check.specs.declared.fault.CertFault.TheVariants as numbered
use Rattle.cert_check.specs.Checked.{Checked}
use Rattle.cert_check.specs.Dues.{lean_next, next_map}
use Rattle.cert_check.specs.Faults.{stop_of}
use Rattle.cert_check.specs.Stages.{IsOneMore}
use Rattle.cert_least.specs.declared.aim.Aim as code
use Rattle.cert_least.specs.declared.phase.Phase.{Phase}
use Rattle.cert_least.specs.declared.phase.Phase.TheVariants as phase
use Rattle.cert_least.specs.declared.phase.Scope.{Scope}
use Rattle.cert_least.specs.declared.phase.Told.{Told}
use Rattle.cert_least.specs.Aims.{Aim, aim_next, lean_goal}
use Rattle.cert_least.specs.Courses.{after, stops_at}
use Rattle.cert_least.specs.Judging.{aim_of}
use Rattle.cert_least.specs.Phases.{told_of, cover_value, goal_due, course_of, IsDueIn, IsDueTo, IsKindDue, problem_in, searched_by}

-- ---- faults

-- the fault, with the number of some line
pub record IsToldAs (f : CertFault) (g : due.CertFault) : Type 0 where
  pub line : ℕ
  pub told : stop_of f ≡ Some (stopped g line)

-- a line has this fault, whatever line it is
pub record IsFaultOf {D : Type 0} (f : CertFault) (x : NextOf D) : Type 0 where
  pub fault : due.CertFault
  pub says : x ≡ faulty fault
  pub told : IsToldAs f fault

-- the same, or there was no memory
abbrev pub IsFaultOrMemory : {D : Type 0} → CertFault → NextOf D → Type 0
IsFaultOrMemory f x = (f ≡ numbered.Memory) ⊎ IsFaultOf f x

-- the same fault of another line
abbrev pub renumbered : CertFault → ℕ → CertFault
renumbered (numbered.BadHeader k) n = numbered.BadHeader n
renumbered (numbered.BadNumber k) n = numbered.BadNumber n
renumbered (numbered.RuleFails w k) n = numbered.RuleFails w n
renumbered (numbered.KeepFails k) n = numbered.KeepFails n
renumbered (numbered.OverFails k) n = numbered.OverFails n
renumbered (numbered.Missing k) n = numbered.Missing n
renumbered (numbered.Extra k) n = numbered.Extra n
renumbered (numbered.WrongBound k) n = numbered.WrongBound n
renumbered (numbered.NotShown k) n = numbered.NotShown n
renumbered (numbered.BadLine k) n = numbered.BadLine n
renumbered (numbered.LineTooLong k) n = numbered.LineTooLong n
renumbered (numbered.TooLong k) n = numbered.TooLong n
renumbered numbered.Memory n = numbered.Memory

-- that of a rule which leaves its own state, in the main tree
abbrev pub leaf_refusal : Problem → Line → due.CertFault
leaf_refusal p l = cond (names_well p l) (RuleFails (word_of l)) BadNumber

-- ---- lines of the checker of the check

-- behind the line that leads so this is due to it
pub record IsAdvanced (p : Problem) (bound : Option ℕ) (x : NextOf Due) (c : Checked) : Type 0 where
  pub due : Due
  pub leads : lean_next x ≡ on due
  pub is_due : IsDueTo p bound due c

abbrev pub IsGone : Problem → Option ℕ → NextOf Due → Phase → Checked → Result Phase CertFault → Type 0
IsGone p bound x phase c (Ok reached) = (reached ≡ phase) × IsAdvanced p bound x c
IsGone p bound x phase c (Err f) = IsFaultOrMemory f x

-- the line is given to it, and this phase reached behind it
abbrev pub IsGiven : Checked → CertLine → Phase → Checked → Result Phase CertFault → Type 0
IsGiven old l phase new r = (p : Problem) (bound : Option ℕ) (d : Due) → IsDueTo p bound d old → IsGone p bound (next p bound d l) phase new r

abbrev pub IsOnward : Problem → Option ℕ → NextOf Due → Checked → Result (Unit {0}) CertFault → Type 0
IsOnward p bound x c (Ok _) = IsAdvanced p bound x c
IsOnward p bound x c (Err f) = IsFaultOrMemory f x

-- the line is given to it, with no phase
abbrev pub IsGivenOn : Checked → CertLine → Checked → Result (Unit {0}) CertFault → Type 0
IsGivenOn old l new r = (p : Problem) (bound : Option ℕ) (d : Due) → IsDueTo p bound d old → IsOnward p bound (next p bound d l) new r

-- this is due to it behind lines that have no fault, or there was no memory
abbrev pub IsTaken : Problem → Option ℕ → Due → Checked → Result (Unit {0}) CertFault → Type 0
IsTaken p bound d c (Ok _) = IsDueTo p bound d c
IsTaken p bound d c (Err f) = f ≡ numbered.Memory

-- ---- lines of the certificate

-- behind the line that leads so this phase is reached
pub record IsPhaseOn (a : Aim) (x : GoalNext) (c : Checked) (phase : Phase) : Type 0 where
  pub due : Due
  pub is_due : IsDueTo (problem_in a phase) a.bound due c
  pub fits : IsDueIn phase due
  pub leads : next_map lean_goal x ≡ on (goal_due phase due)

abbrev pub IsPhaseOutcome : Aim → GoalNext → Checked → Result Phase CertFault → Type 0
IsPhaseOutcome a x c (Ok phase) = IsPhaseOn a x c phase
IsPhaseOutcome a x c (Err f) = IsFaultOrMemory f x

-- the line in this phase
abbrev pub IsPhaseNext : Aim → Phase → Checked → CertLine → Checked → Result Phase CertFault → Type 0
IsPhaseNext a phase old l new r =
    (d : Due) → IsDueTo (problem_in a phase) a.bound d old → IsDueIn phase d → IsPhaseOutcome a (aim_next a (goal_due phase d) l) new r

-- the same of the code's aim
abbrev pub IsAimNext : code.Aim → Phase → Checked → CertLine → Checked → Result Phase CertFault → Type 0
IsAimNext a phase old l new r = IsPhaseNext (aim_of a) phase old l new r

-- the problem with the bound as a limit of the goal in k bits, exactly where there can be one
abbrev pub IsLimitBy : Aim → Option Dyadic → ℕ → Option Parts → Type 0
IsLimitBy a low k None = can_limit (problem_of a.problem) (has_room (problem_of a.problem)) low k ≡ false
IsLimitBy a low k (Some r) =
    (can_limit (problem_of a.problem) (has_room (problem_of a.problem)) low k ≡ true) × (problem_of r ≡ searched (problem_of a.problem) a.goal low (Some k))

-- a checker of this problem that took the header, and this phase reached; or there was no memory
abbrev pub IsBegun : Problem → Option ℕ → Told → Phase → Checked → Result Phase CertFault → Type 0
IsBegun p bound t phase c (Ok reached) = (reached ≡ phase) × IsDueTo p bound (kind_due (told_of t)) c
IsBegun p bound t phase c (Err f) = f ≡ numbered.Memory

-- `goal` with k bits, behind a header and a lower bound
abbrev pub IsLimitNext : Aim → Told → Option Dy → ℕ → Checked → Result Phase CertFault → Type 0
IsLimitNext a t lower k new r =
    (d : Due) → IsKindDue (told_of t) d → IsPhaseOutcome a (aim_next a (goal_due (phase.Cover t (record { lower = lower; bits = None })) d) (goal k)) new r

-- `over` in the main tree of a cover, where these are the goal's values there
abbrev pub IsOverNext : Aim → Scope → Checked → Interval → Checked → Result Phase CertFault → Type 0
IsOverNext a w old values new r =
    (d : Due) (space : Space) → let p = searched_by a w in
    IsDueTo p a.bound d old → IsDueIn (phase.InCover w) d → tree_space p d ≡ Some space → values ≡ atom_enclosure p space a.goal →
    IsPhaseOutcome a (aim_next a (goal_due (phase.InCover w) d) over) new r

-- `point` behind a cover with this header
abbrev pub IsPointNext : Aim → state.Loosenings → Phase → Checked → Result Phase CertFault → Type 0
IsPointNext a s phase new r = (d : Due) → IsDueIn phase d → cover_value d ≡ Some s → IsPhaseOutcome a (aim_next a (goal_due phase d) point_word) new r

-- ---- all of a checker

-- there is no memory, or this is where the line led
abbrev pub HasLed : Aim → Option GoalCourse → Parsed → Option GoalCourse → Type 0
HasLed a old l new = (new ≡ None) ⊎ (new ≡ option_map (λ x. after a x l) old)

-- this phase is reached by the line that follows so many others
abbrev pub IsPhaseAfter : code.Aim → Phase → Checked → ℕ → CertLine → Checked → Phase → Type 0
IsPhaseAfter a phase old lines l new phase' = (n : ℕ) → IsOneMore lines n → HasLed (aim_of a) (course_of phase old.course lines) (line l) (course_of phase' new.course n)

-- this is the fault after a line without a form
abbrev pub IsFaultAfter : code.Aim → Phase → Checked → ℕ → Parsed → CertFault → Type 0
IsFaultAfter a phase old lines l fault = HasLed (aim_of a) (course_of phase old.course lines) l (stops_at fault)
