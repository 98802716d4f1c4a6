-- A point that is shown leads to the end of a certificate of a least value.
use Rattle.std.proofs.Common.{◌≡◌, ℕ, suc, List, [], ◌∷◌, Bool, Option, Some, refl, ap, ◌∙◌}
use Rattle.dyadic.specs.Rounding.{Dyadic, exact}
use Rattle.dyadic.proofs.Equal.{both_pass}
use Rattle.interval_model.specs.Space.{Space}
use Rattle.poly_graph.specs.Problem.{Problem}
use Rattle.cover_model.specs.State.{State, Loosenings, delta_of, sure}
use Rattle.cover_model.specs.Fits.{IsShownAt, coordinates, are_near}
use Rattle.cert_read.specs.CertLine.{CertLine}
use Rattle.cert_model.specs.Due.{Standing, at_point, Due, kind_due, nothing_due, Next, on, faulty}
use Rattle.cert_model.specs.Accepted.{next, Course, stopped, reached, course_next, course_of_lines}
use Rattle.cert_model.specs.Least.{Least, LeastDue, covered_due, in_point_due, shown_due, LeastNext, in_point, least_due, as_least, GoalDue}
use Rattle.cert_model.proofs.Writes.{point_finishes}
use Rattle.cert_text.specs.Parts.{whole_point}
use Rattle.least_text.proofs.Leads.{goal_lines, Leads}

module _ (p : Problem) (g : ℕ) (room : Bool) (b : Option ℕ) (low : Option Dyadic) (left : List Standing) where
  abbrev pub value : Space → Least
  value x = record { lower = low; over = left; point = Some x }

  -- what is due there, where this is due in a certificate of one check
  abbrev as_pointed : Due → LeastDue
  as_pointed (nothing_due s lemmas (at_point x)) = shown_due s (value x)
  as_pointed d = in_point_due low left d

  pointed-on : (d : Due) → in_point low left (on d) ≡ on (as_pointed d)
  pointed-on (nothing_due s lemmas (at_point x)) = refl
  pointed-on _ = refl

  not-last : (d : Due) (l : CertLine) (d' : Due) → next p b d l ≡ on d' → as_pointed d ≡ in_point_due low left d
  not-last (nothing_due s lemmas v) l d' e = cc
  not-last _ l d' e = refl

  abbrev Ends : Course → Loosenings → List State → Space → ℕ → Type 0
  Ends c s lemmas x m = c ≡ reached (nothing_due s lemmas (at_point x)) m

  abbrev due-then : Course → Due → Due
  due-then (stopped f n) d = d
  due-then (reached d' n) d = d'

  step-on : (d : Due) (l : CertLine) (rest : List CertLine) (d' : Due) (n : ℕ) → next p b d l ≡ on d' →
      goal_lines p g room b n (least_due (as_pointed d)) (l ∷ rest) ≡ goal_lines p g room b (suc n) (least_due (as_pointed d')) rest
  step-on d l rest d' n e =
      ap (λ (x : LeastDue). goal_lines p g room b n (least_due x) (l ∷ rest)) (not-last d l d' e)
      ∙ ap (λ (x : LeastNext). course_next (as_least x) (suc n) (λ (y : GoalDue). goal_lines p g room b (suc n) y rest)) (ap (in_point low left) e ∙ pointed-on d')

  abbrev LeadsOn : Due → List CertLine → Loosenings → Space → Type 0
  LeadsOn d ls s x = Leads p g room b (least_due (as_pointed d)) ls (least_due (shown_due s (value x))) []

  by-next : (d : Due) (l : CertLine) (ls : List CertLine) (n : ℕ) (s : Loosenings) (lemmas : List State) (x : Space) (m : ℕ) →
      ((d' : Due) → Ends (course_of_lines p b (suc n) d' ls) s lemmas x m → LeadsOn d' ls s x) →
      (y : Next) → next p b d l ≡ y → Ends (course_next y (suc n) (λ d'. course_of_lines p b (suc n) d' ls)) s lemmas x m → LeadsOn d (l ∷ ls) s x
  by-next d l ls n s lemmas x m ih (faulty f) a h = cc
  by-next d l ls n s lemmas x m ih (on d') a h = λ k. let y = ih d' h (suc k) in (y.0, step-on d l ls d' k a ∙ y.1)

  -- the same lines lead to the end
  follows : (ls : List CertLine) (n : ℕ) (d : Due) (s : Loosenings) (lemmas : List State) (x : Space) (m : ℕ) → Ends (course_of_lines p b n d ls) s lemmas x m → LeadsOn d ls s x
  follows [] n d s lemmas x m e =
      let same : d ≡ nothing_due s lemmas (at_point x) = ap (λ (c : Course). due-then c d) e in
      λ k. (k, ap (λ (y : Due). goal_lines p g room b k (least_due (as_pointed y)) []) same)
  follows (l ∷ ls) n d s lemmas x m e = by-next d l ls n s lemmas x m (λ d'. follows ls (suc n) d' s lemmas x m) (next p b d l) refl e

  -- from the first line of the point on
  pub point_leads : (s : Loosenings) (x : Space) → IsShownAt p s x → Leads p g room b (least_due (covered_due s low left)) (whole_point x) (least_due (shown_due s (value x))) []
  point_leads s x h =
      let f = point_finishes p b s x h.single (both_pass (sure p s x) (are_near (exact (delta_of s)) p.axes (coordinates x)) h.surely h.near) in
      let e = f.to 0 in
      λ k. follows (whole_point x) 0 (kind_due s) s [] x e.0 e.1 k
