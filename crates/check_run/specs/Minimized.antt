-- The answers of `minimize`.
use Rattle.std.specs.Prelude.{◌≡◌, ◌≢◌, ◌≤◌, ◌⊎◌, ◌++◌, ℕ, List, [], ◌∷◌, true, Option, Some, None, IsTrue, codes}
use Rattle.command_line.specs.declared.request.Options.{Options}
use Rattle.command_line.specs.Words.{Minimize}
use Rattle.dyadic.specs.End.{lesser_ext}
use Rattle.dyadic.specs.Rounding.{Dyadic, Ext, above_all, ext_at_most}
use Rattle.poly_graph.specs.Problem.{Problem}
use Rattle.interval_model.specs.Space.{Space}
use Rattle.cover_model.specs.State.{in_version}
use Rattle.cert_read.specs.LineText.{lower_text}
use Rattle.cert_model.specs.Due.{Standing, left_open}
use Rattle.cert_model.specs.AnswerText.{text_line, axes_text, budget_text, solve_text, upper_line, value_text}
use Rattle.cert_model.specs.Least.{Least, least, lower_end, upper_at, is_lines_version, IsGoalAccepted, IsSettled}
use Rattle.goal_limit.specs.Limits.{has_room}
use Rattle.goal_limit.specs.Lows.{low_at, root_low}
use Rattle.goal_limit.specs.Tries.{Span, HasNoLimit, IsTarget}
use Rattle.check_run.specs.declared.status.Status.TheVariants.{ScriptRefused}
use Rattle.check_run.specs.Answer.{loosenings_of, IsAnswer}
use Rattle.check_run.specs.Causes.{AreUsed, IsNarrow, Searches, cost_of}
use Rattle.check_run.specs.Course.{Course, says, gives}

-- ---- texts

-- why a search for a least value ended: the bounds are near, the budget is spent, a box of the least width is left, or there is no limit between the
-- bounds
pub data Cause : Type 0 where
  near spent narrow no_limit : Cause

abbrev pub cause_text : ℕ → Cause → List ℕ
cause_text budget near = text_line (codes "minimum")
cause_text budget spent = budget_text budget
cause_text budget narrow = text_line (codes "unknown width")
cause_text budget no_limit = text_line (codes "unknown limit")

abbrev pub point_lines : Problem → Option Space → List ℕ
point_lines p None = []
point_lines p (Some space) = axes_text value_text p.axes space

abbrev pub minimize_text : Problem → ℕ → ℕ → Cause → Least → List ℕ
minimize_text p g budget cause x =
    cause_text budget cause ++ (text_line (codes "lower " ++ lower_text x.lower) ++ (upper_line p g x.point ++ point_lines p x.point))

-- a script without fault, of whose only check no goal is in force
abbrev pub no_goal_text : List ℕ
no_goal_text = text_line (codes "script fault 17 NoGoal 0:0")

-- ---- courses

-- Each cause is told only where it is one: of these bounds, behind these searches.
abbrev pub IsCauseFor : (p : Problem) (g : ℕ) (options : Options) → Span → Searches p g options → Cause → Type 0
IsCauseFor p g options bounds x near = IsSettled bounds.gap bounds.low bounds.high
IsCauseFor p g options bounds x spent = cost_of p g options x ≡ options.budget
IsCauseFor p g options bounds x narrow = IsNarrow p g options bounds
IsCauseFor p g options bounds x no_limit = (target : Ext) × IsTarget bounds target × HasNoLimit p (has_room p) target bounds

-- a lower bound and that of a point
abbrev pub bounds_at : Problem → ℕ → ℕ → Option Dyadic → Space → Span
bounds_at p g gap low point = record { low = low; high = upper_at p g point; gap = gap }

-- the least lower end of the goal over the boxes of these states, minus infinity where one is no number
abbrev pub least_low : Problem → ℕ → List Standing → Ext
least_low p g [] = above_all
least_low p g (x ∷ left) = lesser_ext (lower_end (low_at p g x.state.space)) (least_low p g left)

-- The lower bound is not below the lower end of the goal over the declared box, and where boxes are left it is the least lower end over them: so there
-- is none only where the goal over the declared box has no number as its lower end.
pub record IsLowerBound (p : Problem) (g : ℕ) (x : Least) : Type 0 where
  pub root : ext_at_most (lower_end (root_low p g)) (lower_end x.lower) ≡ true
  pub over : x.over ≢ [] → lower_end x.lower ≡ least_low p g x.over

-- A certificate with a lower bound of the goal and a point, with the words' bound, margin and delta, and with the lines of version 2 or 5. The searches that found them cost at most the
-- budget, all that they found is in the bounds, and the cause is told by what they did: bounds that are near are told as near.
pub record IsLeastAnswer (p : Problem) (g : ℕ) (words : Minimize) (cert : List ℕ) (cause : Cause) (x : Least) : Type 0 where
  pub version : ℕ
  pub is_version : IsTrue (is_lines_version version)
  pub accepted : IsGoalAccepted p g (has_room p) words.options.bound cert (in_version version (loosenings_of words.options)) (least x)
  pub lower : IsLowerBound p g x
  pub point : Space
  pub has_point : x.point ≡ Some point
  pub searches : Searches p g words.options
  pub within : cost_of p g words.options searches ≤ words.options.budget
  pub used : AreUsed p g words.options (bounds_at p g words.gap_bits x.lower point) searches
  pub is_near : IsSettled words.gap_bits x.lower (upper_at p g point) → cause ≡ near
  pub is_cause : IsCauseFor p g words.options (bounds_at p g words.gap_bits x.lower point) searches cause

-- Where a point is found its bounds are told. Where none is, what an honest cover leaves, as `solve` does.
abbrev pub CanTellLeast : Problem → ℕ → Minimize → Course → Type 0
CanTellLeast p g words course =
    ((cert : List ℕ) × (left : List Standing) × IsAnswer p words.options cert (left_open left)
    × (course ≡ gives words.cert cert (solve_text p words.options.budget (loosenings_of words.options) (left_open left))))
    ⊎ ((cert : List ℕ) × (cause : Cause) × (x : Least) × IsLeastAnswer p g words cert cause x
    × (course ≡ gives words.cert cert (minimize_text p g words.options.budget cause x)))

-- `minimize`, by the atom of the goal, where there is one
abbrev pub CanMinimize : Option ℕ → Problem → Minimize → Course → Type 0
CanMinimize (Some g) p words course = CanTellLeast p g words course
CanMinimize None p words course = course ≡ says ScriptRefused no_goal_text
