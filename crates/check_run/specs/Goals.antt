-- A certificate of a script with a goal that is read from its port, and its verdict.
use Rattle.std.specs.Prelude.{◌≡◌, ℕ, List, [], ◌∷◌, Bool, Option, Some, None, IfSome, Result, Ok, Err, codes, ◌++◌}
use Rattle.desk.specs.declared.desk.Port.TheVariants.{CertIn}
use Rattle.desk.specs.Sight.{Sight}
use Rattle.desk.specs.Texts.{ReadsSome, ReadsThenFails}
use Rattle.poly_graph.specs.Problem.{Problem}
use Rattle.poly_graph.specs.ProblemViews.{Parts, problem_of}
use Rattle.dyadic.specs.Rounding.{Ext}
use Rattle.dyadic.specs.Views.{dyadic_of, ext_of}
use Rattle.cert_read.specs.LineText.{lower_text}
use Rattle.cover_model.specs.State.{Loosenings}
use Rattle.cert_model.specs.AnswerText.{text_line, end_text, goal_text}
use Rattle.cert_model.specs.Least.{GoalValue, GoalVerdict, goal_verdict}
use Rattle.goal_limit.specs.Limits.{has_room}
use Rattle.cert_check.specs.Feeding.{IsRefusalOrMemory}
use Rattle.cert_check.specs.declared.fault.CertFault.{CertFault}
use Rattle.cert_least.specs.declared.verdict.GoalVerdict as told
use Rattle.cert_least.specs.declared.verdict.Least.{Least}
use Rattle.cert_least.specs.Aims.{Aim}
use Rattle.cert_least.specs.Checked.{aim_at}
use Rattle.cert_least.specs.Courses.{IsValue, IsVerdict}
use Rattle.cert_least.specs.Feeding.{IsVerdictOrMemory}
use Rattle.std.specs.Option.{option_map}
use Rattle.check_run.specs.declared.check.Unconfirmed.{Unconfirmed}
use Rattle.check_run.specs.declared.check.Unconfirmed.TheVariants.{Fault, Failed}
use Rattle.check_run.specs.declared.status.Status.{Status}
use Rattle.check_run.specs.Course.{Course, RunEnds, behind}
use Rattle.check_run.specs.Can.{goal_course}
use Rattle.check_run.specs.Run.{IsReadToEnd}

-- ---- the port

-- the verdict, or why there is none
abbrev pub GoalTold : Type 0
GoalTold = Result told.GoalVerdict Unconfirmed

-- the verdict of the port's certificate, where the port did not fail
abbrev pub IsGoalVerdictOnPort : Aim → GoalVerdict → GoalTold → Type 0
IsGoalVerdictOnPort a v (Ok w) = IsVerdict a v (Ok w)
IsGoalVerdictOnPort a v (Err (Fault f)) = IsRefusalOrMemory v f
IsGoalVerdictOnPort a v (Err Failed) = Unit {0}

-- that of the certificate that the port holds, for the problem of the only check, whose goal is the term of atom g
abbrev pub IsGoalVerdictFor : Parts → ℕ → Option ℕ → Sight → GoalTold → Type 0
IsGoalVerdictFor p g bound old r = IfSome old.cert_in (λ cert. IsGoalVerdictOnPort (aim_at p g bound) (goal_verdict (problem_of p) g (has_room (problem_of p)) bound cert) r)

-- what was read of it: all where it is confirmed
abbrev pub IsGoalReadFor : GoalTold → Sight → Sight → Type 0
IsGoalReadFor (Ok w) old new = ReadsSome CertIn old new × IsReadToEnd old new
IsGoalReadFor (Err (Fault f)) old new = ReadsSome CertIn old new
IsGoalReadFor (Err Failed) old new = ReadsThenFails CertIn old new

-- ---- answers

-- what is told of an upper end, where there is one
abbrev pub told_upper : Option Ext → List ℕ
told_upper None = []
told_upper (Some e) = text_line (codes "upper " ++ end_text e)

-- the text of a lower bound, and of an upper one where there is one
abbrev pub bounds_text : Least → List ℕ
bounds_text w = text_line (codes "confirmed lower " ++ lower_text (option_map dyadic_of w.lower)) ++ told_upper (option_map ext_of w.upper)

-- the text of the answer that confirms a certificate
abbrev pub IsGoalConfirmation : told.GoalVerdict → List ℕ → Type 0
IsGoalConfirmation w text = (a : Aim) (s : Loosenings) (v : GoalValue) → IsValue a s v w → text ≡ goal_text (problem_of a.problem) a.goal s v

-- the one course of a verdict
abbrev pub IsGoalCourseOf : Problem → ℕ → GoalVerdict → Course → Type 0
IsGoalCourseOf p g v course = course ≡ goal_course p g v

abbrev pub EndsOnGoalVerdict : Result told.GoalVerdict CertFault → Sight → Sight → Status → Type 0
EndsOnGoalVerdict r old new status =
    (a : Aim) (v : GoalVerdict) → IsVerdictOrMemory a v r → RunEnds (IsGoalCourseOf (problem_of a.problem) a.goal v) [] old new status

-- ---- runs

-- the courses of a certificate behind the start of its port
abbrev pub CanCheckGoal : Problem → ℕ → Bool → Option ℕ → List ℕ → List ℕ → Course → Type 0
CanCheckGoal p g room bound name cert_in course = course ≡ behind ((CertIn, name) ∷ []) (goal_course p g (goal_verdict p g room bound cert_in))

-- a run ends behind its problem, where the port shows a certificate
abbrev pub EndsOnGoal : Parts → ℕ → Option ℕ → List ℕ → Sight → Sight → Status → Type 0
EndsOnGoal p g bound name old new status = IfSome old.cert_in (λ cert. RunEnds (CanCheckGoal (problem_of p) g (has_room (problem_of p)) bound name cert) ((CertIn, name) ∷ []) old new status)
