-- Where the lines of a certificate of a least value lead.
use Rattle.std.proofs.Common.{◌≡◌, ◌⊎◌, inl, inr, ℕ, suc, List, ◌∷◌, ◌++◌, Bool, true, cond, Option, Some, None, IsTrue, refl, ap, sym, ◌∙◌, subst}
use Rattle.dyadic.specs.Rounding.{Dyadic}
use Rattle.poly_graph.specs.Problem.{Problem}
use Rattle.cover_model.specs.State.{Loosenings, in_version}
use Rattle.cert_read.specs.CertLine.{CertLine, version, margin, delta, bound, lower, goal}
use Rattle.cert_model.specs.Due.{BadHeader, WrongBound, version_due, margin_due, delta_due, bound_due, kind_due, on, faulty, given}
use Rattle.cert_model.specs.Accepted.{lines_course, course_next, loosenings_fit}
use Rattle.cert_model.specs.Least.{LeastDue, header_due, lower_due, cover_due, LeastNext, in_header, can_limit, least_next, GoalDue, GoalNext, plain_due, least_due, as_plain, as_least, goal_next, GoalCourse}
use Rattle.cert_model.proofs.Writes.{same_bounds}
use Rattle.least_text.specs.Lines.{least_header, least_version}

module _ (p : Problem) (g : ℕ) (room : Bool) (b : Option ℕ) where
  abbrev pub goal_lines : ℕ → GoalDue → List CertLine → GoalCourse
  goal_lines n d ls = lines_course (goal_next p g room b) n d ls

  -- the course of some lines leads to that of what is due then, with the rest of the lines
  abbrev pub Leads : GoalDue → List CertLine → GoalDue → List CertLine → Type 0
  Leads d ls d' ls' = (n : ℕ) → (m : ℕ) × (goal_lines n d ls ≡ goal_lines m d' ls')

  pub through : (d d' d'' : GoalDue) (ls ls' ls'' : List CertLine) → Leads d ls d' ls' → Leads d' ls' d'' ls'' → Leads d ls d'' ls''
  through d d' d'' ls ls' ls'' f h n = let x = f n in let y = h x.0 in (y.0, x.1 ∙ y.1)

  pub one_line : (d : LeastDue) (l : CertLine) (ls : List CertLine) (d' : LeastDue) → least_next p g room b d l ≡ on d' → Leads (least_due d) (l ∷ ls) (least_due d') ls
  one_line d l ls d' e n = (suc n, ap (λ (x : LeastNext). course_next (as_least x) (suc n) (λ y. goal_lines (suc n) y ls)) e)

  step-leads : (d : GoalDue) (l : CertLine) (ls : List CertLine) (d' : GoalDue) → goal_next p g room b d l ≡ on d' → Leads d (l ∷ ls) d' ls
  step-leads d l ls d' e n = (suc n, ap (λ (x : GoalNext). course_next x (suc n) (λ y. goal_lines (suc n) y ls)) e)

  -- ---- the header, by what is due behind its version

  module _ (s : Loosenings) (low : Option Dyadic) (ls : List CertLine) (fit : IsTrue (loosenings_fit s.margin_bits s.delta_bits)) where
    abbrev behind-bound : List CertLine
    behind-bound = lower low ∷ ls

    abbrev behind-delta : List CertLine
    behind-delta = bound b ∷ behind-bound

    abbrev behind-margin : List CertLine
    behind-margin = delta s.delta_bits ∷ behind-delta

    abbrev behind-version : List CertLine
    behind-version = margin s.margin_bits ∷ behind-margin

    abbrev covers-due : GoalDue
    covers-due = least_due (cover_due s low None)

    -- in version 4, which has the lines of version 2
    version-4 : s.version ≡ 2 → Leads (plain_due version_due) (version 4 ∷ behind-version) covers-due ls
    version-4 e =
        let second : Loosenings = in_version 2 s in
        let same : second ≡ s = ap (λ (v : ℕ). in_version v s) (sym e) in
        let d1 : GoalDue = least_due (header_due (margin_due 2)) in let d2 : GoalDue = least_due (header_due (delta_due 2 s.margin_bits)) in
        let d3 : GoalDue = least_due (header_due (bound_due second)) in let d4 : GoalDue = least_due (lower_due second) in let d5 : GoalDue = least_due (cover_due second low None) in
        let third : goal_next p g room b d2 (delta s.delta_bits) ≡ on d3 = ap (λ (t : Bool). as_least (in_header (given t (bound_due second) BadHeader))) fit in
        let fourth : goal_next p g room b d3 (bound b) ≡ on d4 = ap (λ (t : Bool). as_least (in_header (given t (kind_due second) WrongBound))) (same_bounds b) in
        subst (λ (t : Loosenings). Leads (plain_due version_due) (version 4 ∷ behind-version) (least_due (cover_due t low None)) ls) same
        (through (plain_due version_due) d1 d5 (version 4 ∷ behind-version) behind-version ls (step-leads (plain_due version_due) (version 4) behind-version d1 refl)
        (through d1 d2 d5 behind-version behind-margin ls (step-leads d1 (margin s.margin_bits) behind-margin d2 refl)
        (through d2 d3 d5 behind-margin behind-delta ls (step-leads d2 (delta s.delta_bits) behind-delta d3 third)
        (through d3 d4 d5 behind-delta behind-bound ls (step-leads d3 (bound b) behind-bound d4 fourth)
        (step-leads d4 (lower low) ls d5 refl)))))

    -- in version 5, where the line of the lower bound tells that it is one of a least value
    version-5 : s.version ≡ 5 → Leads (plain_due version_due) (version 5 ∷ behind-version) covers-due ls
    version-5 e =
        let fifth : Loosenings = in_version 5 s in
        let same : fifth ≡ s = ap (λ (v : ℕ). in_version v s) (sym e) in
        let d1 : GoalDue = plain_due (margin_due 5) in let d2 : GoalDue = plain_due (delta_due 5 s.margin_bits) in
        let d3 : GoalDue = plain_due (bound_due fifth) in let d4 : GoalDue = plain_due (kind_due fifth) in let d5 : GoalDue = least_due (cover_due fifth low None) in
        let third : goal_next p g room b d2 (delta s.delta_bits) ≡ on d3 = ap (λ (t : Bool). as_plain (given t (bound_due fifth) BadHeader)) fit in
        let fourth : goal_next p g room b d3 (bound b) ≡ on d4 = ap (λ (t : Bool). as_plain (given t (kind_due fifth) WrongBound)) (same_bounds b) in
        subst (λ (t : Loosenings). Leads (plain_due version_due) (version 5 ∷ behind-version) (least_due (cover_due t low None)) ls) same
        (through (plain_due version_due) d1 d5 (version 5 ∷ behind-version) behind-version ls (step-leads (plain_due version_due) (version 5) behind-version d1 refl)
        (through d1 d2 d5 behind-version behind-margin ls (step-leads d1 (margin s.margin_bits) behind-margin d2 refl)
        (through d2 d3 d5 behind-margin behind-delta ls (step-leads d2 (delta s.delta_bits) behind-delta d3 third)
        (through d3 d4 d5 behind-delta behind-bound ls (step-leads d3 (bound b) behind-bound d4 fourth)
        (step-leads d4 (lower low) ls d5 refl)))))

    pub header_leads : (s.version ≡ 2) ⊎ (s.version ≡ 5) → Leads (plain_due version_due) (least_header s b low ++ ls) covers-due ls
    header_leads (inl e) = subst (λ (v : ℕ). Leads (plain_due version_due) (version v ∷ behind-version) covers-due ls) (sym (ap least_version e)) (version-4 e)
    header_leads (inr e) = subst (λ (v : ℕ). Leads (plain_due version_due) (version v ∷ behind-version) covers-due ls) (sym (ap least_version e)) (version-5 e)

  pub goal_leads : (s : Loosenings) (low : Option Dyadic) (k : ℕ) (ls : List CertLine) → can_limit p room low k ≡ true →
      Leads (least_due (cover_due s low None)) (goal k ∷ ls) (least_due (cover_due s low (Some k))) ls
  goal_leads s low k ls h = one_line (cover_due s low None) (goal k) ls (cover_due s low (Some k)) (ap (λ (t : Bool). cond t (on (cover_due s low (Some k))) (faulty BadHeader)) h)
