-- What is told of a least value, by the values of the code.
use Rattle.std.specs.Prelude.{◌≡◌, ◌++◌, ℕ, List, Option, Some, codes}
use Rattle.dyadic.specs.Rounding.{Dyadic, Ext}
use Rattle.interval_model.specs.Space.{Space}
use Rattle.poly_graph.specs.Problem.{Problem}
use Rattle.cert_read.specs.LineText.{lower_text}
use Rattle.cert_model.specs.AnswerText.{text_line, end_text}
use Rattle.cert_model.specs.Least.{Least, upper_at}
use Rattle.check_run.specs.declared.minimized.Cause as told
use Rattle.check_run.specs.declared.minimized.Cause.TheVariants.{Near, Spent, Narrow, NoLimit}
use Rattle.check_run.specs.declared.status.Status.TheVariants.{ScriptRefused}
use Rattle.check_run.specs.Course.{Course, says}
use Rattle.check_run.specs.Minimized.{Cause, near, spent, narrow, no_limit, minimize_text, no_goal_text}

abbrev pub cause_of : told.Cause → Cause
cause_of Near = near
cause_of Spent = spent
cause_of Narrow = narrow
cause_of NoLimit = no_limit

-- the lines of the two bounds
abbrev pub bound_lines : Option Dyadic → Ext → List ℕ
bound_lines lower upper = text_line (codes "lower " ++ lower_text lower) ++ text_line (codes "upper " ++ end_text upper)

-- The text of each least value with this bound and this point, where the goal's enclosure ends at the upper one.
abbrev pub IsMinimizeText : Problem → ℕ → Cause → Option Dyadic → Ext → Space → List ℕ → Type 0
IsMinimizeText p budget cause lower upper point text =
    (g : ℕ) (x : Least) → x.lower ≡ lower → x.point ≡ Some point → upper ≡ upper_at p g point → text ≡ minimize_text p g budget cause x

-- a script without a goal is refused
abbrev pub IsNoGoal : Course → Type 0
IsNoGoal course = course ≡ says ScriptRefused no_goal_text
