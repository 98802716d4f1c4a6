-- Where lines lead a checker of a script with a goal, line by line, and what it answers.
use Rattle.std.specs.Prelude.{◌≡◌, ◌⊎◌, ℕ, suc, List, [], ◌∷◌, ◌++◌, Bool, false, Option, Some, None, Result, Ok, Err, OnOk, option_map}
use Rattle.interval_model.specs.Space.{Space}
use Rattle.cover_model.specs.State.{Loosenings}
use Rattle.dyadic.specs.Views.{dyadic_of, ext_of}
use Rattle.poly_graph.specs.ProblemViews.{problem_of}
use Rattle.cert_read.specs.CertLine.{Parsed}
use Rattle.cert_read.specs.LineText.{text_of_lines}
use Rattle.cert_read.specs.State.{Reading}
use Rattle.cert_read.specs.Reading.{lines_ahead}
use Rattle.cert_model.specs.Due.{on, faulty}
use Rattle.cert_model.specs.Accepted.{stopped, reached, accepted, refused, cut_off}
use Rattle.cert_model.specs.Least.{Least, GoalDue, GoalNext, plain_due, GoalValue, plain, least, GoalCourse, GoalVerdict, goal_ended, upper_at}
use Rattle.cert_check.specs.declared.fault.CertFault.{CertFault}
use Rattle.cert_check.specs.declared.fault.CertFault.TheVariants.{Memory}
use Rattle.cert_check.specs.Courses.{AreWhole, IsRefusal, verdict_of}
use Rattle.cert_check.specs.Dues.{next_map}
use Rattle.cert_check.specs.Faults.{stop_of}
use Rattle.cert_check.specs.Work.{course_map}
use Rattle.cert_least.specs.declared.verdict.Least as told
use Rattle.cert_least.specs.declared.verdict.GoalVerdict as told-verdict
use Rattle.cert_least.specs.declared.verdict.GoalVerdict.TheVariants as tells
use Rattle.cert_least.specs.Aims.{Aim, aim_step, aim_course, lean_goal}
use Rattle.cert_least.specs.Checked.{GoalChecked}

-- ---- one more line

-- with the line's number
abbrev pub leads : ℕ → GoalNext → GoalCourse
leads n (on d) = reached d n
leads n (faulty f) = stopped f n

-- without what the code does not keep
abbrev pub after : Aim → GoalCourse → Parsed → GoalCourse
after a (stopped f n) l = stopped f n
after a (reached d n) l = leads (suc n) (next_map lean_goal (aim_step a d l))

abbrev pub after_all : Aim → GoalCourse → List Parsed → GoalCourse
after_all a x [] = x
after_all a x (l ∷ ls) = after_all a (after a x l) ls

-- ---- what a checker answers

abbrev pub IsUnderWay : Option GoalCourse → Type 0
IsUnderWay (Some (reached d n)) = Unit {0}
IsUnderWay c = ⊥

-- where a checker stops with the fault; nowhere for out of memory
abbrev pub stops_at : CertFault → Option GoalCourse
stops_at f = option_map (course_map plain_due) (stop_of f)

-- the fault where the course stopped, or out of memory
abbrev pub IsCourseAnswer : Option GoalCourse → Result (Unit {0}) CertFault → Type 0
IsCourseAnswer c (Ok _) = IsUnderWay c
IsCourseAnswer c (Err f) = c ≡ stops_at f

-- lines are taken, in order, and answered; out of memory may come at any
pub record Takes (old : GoalChecked) (ls : List Parsed) (new : GoalChecked) (r : Result (Unit {0}) CertFault) : Type 0 where
  pub aim : new.aim ≡ old.aim
  pub course : (new.course ≡ None) ⊎ (new.course ≡ option_map (λ c. after_all old.aim c ls) old.course)
  pub answers : IsCourseAnswer new.course r

-- ---- verdicts

-- the upper end of the goal over the point, where there is one
abbrev pub IsUpper : Aim → Option Space → told.Least → Type 0
IsUpper a point w = option_map ext_of w.upper ≡ option_map (upper_at (problem_of a.problem) a.goal) point

pub record IsLeast (a : Aim) (s : Loosenings) (x : Least) (w : told.Least) : Type 0 where
  pub margin : w.margin ≡ s.margin_bits
  pub delta : w.delta ≡ s.delta_bits
  pub lower : option_map dyadic_of w.lower ≡ x.lower
  pub upper : IsUpper a x.point w

abbrev pub IsValue : Aim → Loosenings → GoalValue → told-verdict.GoalVerdict → Type 0
IsValue a s (plain v) (tells.Check w) = w ≡ verdict_of s v
IsValue a s (least x) (tells.Least w) = IsLeast a s x w
IsValue a s v w = ⊥

abbrev pub IsVerdict : Aim → GoalVerdict → Result told-verdict.GoalVerdict CertFault → Type 0
IsVerdict a (accepted s v) (Ok w) = IsValue a s v w
IsVerdict a (refused f n) (Ok w) = ⊥
IsVerdict a v (Err e) = IsRefusal v e

-- the input ends
abbrev pub Finishes : Aim → Option GoalCourse → Result told-verdict.GoalVerdict CertFault → Type 0
Finishes a None r = r ≡ Err Memory
Finishes a (Some c) r = IsVerdict a (goal_ended c) r

-- the input goes on where no more of it is read
abbrev pub IsCutOff : Option GoalCourse → CertFault → Type 0
IsCutOff None f = f ≡ Memory
IsCutOff (Some c) f = IsRefusal (cut_off {D = GoalDue} {V = GoalValue} c) f

-- ---- bytes

-- where the lines led, from the first one on
abbrev pub led_by : GoalChecked → List (List ℕ) → Option GoalCourse
led_by c ls = Some (course_map lean_goal (aim_course c.aim ls))

-- of the bytes that were fed so far the checker has taken some lines, and the rest is not answered yet
pub record IsFed (bytes : List ℕ) (c : GoalChecked) (unread : List ℕ) : Type 0 where
  pub taken : List (List ℕ)
  pub whole : AreWhole taken
  pub text : bytes ≡ text_of_lines taken ++ unread
  pub led : c.course ≡ led_by c taken

-- all lines of these bytes are taken, or those up to a fault
abbrev pub IsAt : GoalChecked → List ℕ → Bool → Type 0
IsAt c bytes is_end = (c.course ≡ None) ⊎ (c.course ≡ led_by c (lines_ahead (record { unread = bytes; ended = is_end })))

-- the lines that a reader holds are taken, or those up to a fault
abbrev pub AreLinesTaken : GoalChecked → Reading → GoalChecked → Type 0
AreLinesTaken old reader new = (bytes : List ℕ) → IsFed bytes old reader.unread → IsAt new bytes reader.ended

-- where the input is not at its end, the checker goes on with what the reader keeps
abbrev pub IsFedOn : GoalChecked → Reading → GoalChecked → Reading → Result (Unit {0}) CertFault → Type 0
IsFedOn old reader new rest r = (bytes : List ℕ) → reader.ended ≡ false → IsFed bytes old reader.unread → OnOk r (IsFed bytes new rest.unread)
