-- What holds of what is due behind the version of a least value, and goes on to hold, holds after its last line.
use Rattle.std.proofs.Common.{ℕ, List, Option, Some, None, Bool, IsTrue, subst, nat_le, length}
use Rattle.dyadic.specs.Rounding.{Dyadic}
use Rattle.poly_graph.specs.Problem.{Problem}
use Rattle.cover_model.specs.State.{Loosenings}
use Rattle.cert_read.specs.CertLine.{CertLine, version, lower}
use Rattle.cover_model.specs.Rules.{has_version_5}
use Rattle.cert_model.specs.Due.{Standing, is_version, Due, version_due, margin_due, kind_due, Next, on, faulty}
use Rattle.cert_model.specs.Accepted.{next, most_bytes, accepted, refused, at_end, Verdict}
use Rattle.cert_model.specs.Least.{LeastDue, header_due, cover_due, covered_due, shown_due, Least, LeastNext, least_next, least_at_end, is_least_version, GoalDue, plain_due, least_due, GoalValue, plain, least, as_plain, as_least, goal_next, goal_at_end, GoalVerdict, plain_verdict, IsGoalAccepted}
use Rattle.cert_model.proofs.Header.{Fits, FitsDue, next_fits}
use Rattle.cert_model.proofs.Invariant.{IfOn, IfAccepted, cond_on, verdict_shows}

-- a version that is read without a goal
abbrev pub IsRead : ℕ → Type 0
IsRead v = IsTrue (is_version v)

module _ (p : Problem) (g : ℕ) (room : Bool) (b : Option ℕ) (P : LeastDue → Type 0) (start : P (header_due (margin_due 2))) (step : (d : LeastDue) (l : CertLine) → P d → IfOn P (least_next p g room b d l))
    (lowers : (s : Loosenings) (low : Option Dyadic) → Fits IsRead (Some s) → IsTrue (has_version_5 s) → P (cover_due s low None)) where
  abbrev InGoal : GoalDue → Type 0
  InGoal (plain_due d) = FitsDue IsRead d
  InGoal (least_due d) = P d

  as-plain-on : (x : Next) → IfOn (FitsDue IsRead) x → IfOn InGoal (as_plain x)
  as-plain-on (on d) h = h
  as-plain-on (faulty f) h = tt

  plain-on : (d : Due) (l : CertLine) → FitsDue IsRead d → IfOn InGoal (as_plain (next p b d l))
  plain-on d l h = as-plain-on (next p b d l) (next_fits IsRead p b d l h)

  least-on : (x : LeastNext) → IfOn P x → IfOn InGoal (as_least x)
  least-on (on d) h = h
  least-on (faulty f) h = tt

  goal-step : (d : GoalDue) (l : CertLine) → InGoal d → IfOn InGoal (goal_next p g room b d l)
  goal-step (plain_due version_due) (version v) h = cond_on InGoal (is_least_version v) (on (least_due (header_due (margin_due 2)))) (as_plain (next p b version_due (version v))) (λ e. start) (plain-on version_due (version v) h)
  goal-step (plain_due (kind_due s)) (lower low) h = cond_on InGoal (has_version_5 s) (on (least_due (cover_due s low None))) (as_plain (next p b (kind_due s) (lower low))) (lowers s low h) (plain-on (kind_due s) (lower low) h)
  goal-step (plain_due d) l h = plain-on d l h
  goal-step (least_due d) l h = least-on (least_next p g room b d l) (step d l h)

  module _ (Q : Loosenings → Least → Type 0) (covered : (s : Loosenings) (low : Option Dyadic) (left : List Standing) → P (covered_due s low left) → Q s (record { lower = low; over = left; point = None }))
      (shown : (s : Loosenings) (x : Least) → P (shown_due s x) → Q s x) where
    abbrev OfGoal : Loosenings → GoalValue → Type 0
    OfGoal s (plain v) = Unit {0}
    OfGoal s (least x) = Q s x

    plain-end : (w : Verdict) → IfAccepted OfGoal (plain_verdict w)
    plain-end (accepted s v) = tt
    plain-end (refused f n) = tt

    least-end : (d : LeastDue) (n : ℕ) → P d → IfAccepted OfGoal (least_at_end d n)
    least-end (covered_due s low left) n h = covered s low left h
    least-end (shown_due s x) n h = shown s x h
    least-end _ n h = tt

    goal-end : (d : GoalDue) (n : ℕ) → InGoal d → IfAccepted OfGoal (goal_at_end d n)
    goal-end (plain_due d) n h = plain-end (at_end d n)
    goal-end (least_due d) n h = least-end d n h

    -- of the value that is accepted
    pub least_is : (bytes : List ℕ) (s : Loosenings) (x : Least) → IsGoalAccepted p g room b bytes s (least x) → Q s x
    least_is bytes s x e = subst (λ (w : GoalVerdict). IfAccepted OfGoal w) e (verdict_shows (goal_next p g room b) InGoal goal-step OfGoal goal_at_end goal-end (nat_le (length bytes) most_bytes) (plain_due version_due) (λ v h. h) bytes)
