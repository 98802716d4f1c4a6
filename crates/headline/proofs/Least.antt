-- Accepted certificates of least values and their scripts.
use Rattle.std.proofs.Common.{◌≡◌, ℕ, List, Option, Some, None, Bool, IsTrue, refl, sym, ◌∙◌, subst}
use Rattle.dyadic.specs.Fraction.{Fraction, IsFraction, at_most}
use Rattle.dyadic.specs.Rounding.{Dyadic, Ext, below_all, finite, above_all, exact, at, end_of, end_at_most}
use Rattle.dyadic.proofs.Equal.{through}
use Rattle.script_model.specs.Script.{Command, Satisfies}
use Rattle.script_forms.specs.Atoms.{goal_atom}
use Rattle.script_forms.specs.ProblemOf.{IsProblemOf}
use Rattle.script_forms.proofs.Box.{box_declared, problem_means}
use Rattle.script_forms.proofs.Goals.{goal_of_problem}
use Rattle.interval_model.specs.Space.{Space}
use Rattle.poly_graph.specs.Problem.{Problem, IsProblem, term_of}
use Rattle.poly_graph.specs.Term.{term_value}
use Rattle.cover_model.specs.State.{Loosenings, margin_of, delta_of}
use Rattle.cert_model.specs.Due.{coordinates}
use Rattle.cert_model.specs.Least.{Least, least, lower_end, upper_at, IsGoalAccepted}
use Rattle.cert_model.proofs.LeastMeans.{lower_holds, upper_holds}
use Rattle.headline.specs.Near.{IsNearDeclaredBox}
use Rattle.headline.specs.Least.{HasLowerBound, IsGoalAtMost}
use Rattle.headline.proofs.Headline.{near_is}

-- what is not below the end and not above q
above-lower : (lower : Option Dyadic) (v q : Fraction) → IsFraction v → IsTrue (end_at_most (end_of (lower_end lower)) (at v)) → IsTrue (at_most v q) → IsTrue (end_at_most (end_of (lower_end lower)) (at q))
above-lower None v q good h e = refl
above-lower (Some d) v q good h e = through (exact d) v q good h e

below-upper : (upper : Ext) (q v : Fraction) → IsFraction v → IsTrue (at_most q v) → IsTrue (end_at_most (at v) (end_of upper)) → IsTrue (end_at_most (at q) (end_of upper))
below-upper below_all q v good h e = e
below-upper (finite d) q v good h e = through q v (exact d) good h e
below-upper above_all q v good h e = refl

module _ (bound : Option ℕ) (script : List Command) (p : Problem) (good : IsProblem p) (t : IsProblemOf bound script p) (g : ℕ) (e : goal_atom script ≡ Some g) (room : Bool) (bytes : List ℕ) (s : Loosenings) (x : Least) (accepts : IsGoalAccepted p g room bound bytes s (least x)) where
  pub lower_is : HasLowerBound bound script (exact (margin_of s)) x.lower
  lower_is point b m q value =
      let i = (box_declared bound script p t point).0 b in
      let goal = goal_of_problem bound script p t g e in
      let is = goal.1 point i.0 in
      let same : is.0 ≡ q = (let both : ◌≡◌ {A = Option Fraction} (Some is.0) (Some q) = sym is.1 ∙ value in cc) in
      above-lower x.lower (term_value point (term_of p g)) q is.3
      (lower_holds p good g goal.0 room bound bytes s x accepts point i.0 i.1 ((problem_means bound script p t (exact (margin_of s)) point i.0).1 m))
      (subst (λ (r : Fraction). IsTrue (at_most (term_value point (term_of p g)) r)) same is.5)

  pub upper_is : (space : Space) → x.point ≡ Some space → Satisfies (exact (delta_of s)) (coordinates space) script × IsNearDeclaredBox (exact (delta_of s)) bound script (coordinates space) × IsGoalAtMost script (coordinates space) (upper_at p g space)
  upper_is space kept =
      let goal = goal_of_problem bound script p t g e in
      let h = upper_holds p good g goal.0 room bound bytes s x accepts space kept in
      let is = goal.1 (coordinates space) h.0 in (
        (problem_means bound script p t (exact (delta_of s)) (coordinates space) h.0).0 h.1,
        near_is bound script p t (delta_of s) (coordinates space) h.0 h.2,
        (is.0, is.1, below-upper (upper_at p g space) is.0 (term_value (coordinates space) (term_of p g)) is.3 is.4 h.3),
      )

pub lower_means : (bound : Option ℕ) (script : List Command) (p : Problem) → IsProblem p → IsProblemOf bound script p → (g : ℕ) → goal_atom script ≡ Some g → (room : Bool) (bytes : List ℕ) (s : Loosenings) (x : Least) →
    IsGoalAccepted p g room bound bytes s (least x) → HasLowerBound bound script (exact (margin_of s)) x.lower
lower_means bound script p good t g e room bytes s x accepts = lower_is bound script p good t g e room bytes s x accepts

pub upper_means : (bound : Option ℕ) (script : List Command) (p : Problem) → IsProblem p → IsProblemOf bound script p → (g : ℕ) → goal_atom script ≡ Some g → (room : Bool) (bytes : List ℕ) (s : Loosenings) (x : Least) →
    IsGoalAccepted p g room bound bytes s (least x) → (space : Space) → x.point ≡ Some space →
    Satisfies (exact (delta_of s)) (coordinates space) script × IsNearDeclaredBox (exact (delta_of s)) bound script (coordinates space) × IsGoalAtMost script (coordinates space) (upper_at p g space)
upper_means bound script p good t g e room bytes s x accepts space kept = upper_is bound script p good t g e room bytes s x accepts space kept
