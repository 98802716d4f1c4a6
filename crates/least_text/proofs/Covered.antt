-- A cover that leaves nothing leads to its end behind the header of a least value, too.
use Rattle.std.proofs.Common.{◌≡◌, ◌⊎◌, inl, inr, ℕ, suc, List, [], ◌∷◌, ◌++◌, Bool, true, false, cond, Option, None, refl, ap, ◌∙◌, subst}
use Rattle.dyadic.specs.Rounding.{Dyadic}
use Rattle.interval_model.specs.Space.{Space}
use Rattle.poly_graph.specs.Problem.{Problem}
use Rattle.cover_model.specs.State.{State, Loosenings}
use Rattle.cover_model.specs.Rules.{Line}
use Rattle.cert_read.specs.CertLine.{CertLine, rule_line, over}
use Rattle.cert_model.specs.Due.{left_open, Due, nothing_due, Next, on, faulty}
use Rattle.cert_model.specs.Accepted.{next, Course, stopped, reached, course_next, course_of_lines}
use Rattle.cert_model.specs.Least.{LeastDue, in_cover_due, covered_due, LeastNext, in_cover, searched, tree_space, leaves_open, leaf_line, cover_line, least_due, as_least, GoalDue}
use Rattle.cert_model.proofs.Invariant.{IfOn}
use Rattle.least_text.proofs.Leads.{goal_lines, Leads}
use Rattle.least_text.proofs.Remains.{HasLeft, AtEnd, no_left, no_over, leaves, ends_left, Never}

if-on : (P : Due → Type 0) (x : Next) (d : Due) → x ≡ on d → IfOn P x → P d
if-on P (on d') d e h = let same : d' ≡ d = cc in subst P same h
if-on P (faulty f) d e h = cc

by-test : (t : Bool) → (t ≡ true) ⊎ (t ≡ false)
by-test true = inl refl
by-test false = inr refl

-- what is due there, where this is due in a certificate of one check
abbrev pub as_covered : Option Dyadic → Option ℕ → Due → LeastDue
as_covered low bits (nothing_due s lemmas (left_open left)) = covered_due s low left
as_covered low bits d = in_cover_due low bits d

covered-on : (low : Option Dyadic) (bits : Option ℕ) (d : Due) → in_cover low bits (on d) ≡ on (as_covered low bits d)
covered-on low bits (nothing_due s lemmas (left_open left)) = refl
covered-on low bits _ = refl

module _ (p : Problem) (g : ℕ) (room : Bool) (b : Option ℕ) (low : Option Dyadic) (bits : Option ℕ) where
  -- the problem of the cover
  abbrev pub q : Problem
  q = searched p g low bits

  not-last : (d : Due) (l : CertLine) (d' : Due) → next q b d l ≡ on d' → as_covered low bits d ≡ in_cover_due low bits d
  not-last (nothing_due s lemmas v) l d' e = cc
  not-last _ l d' e = refl

  -- a line is taken in the same way, or leaves something
  abbrev Alike : Due → CertLine → Due → Type 0
  Alike d l d' = HasLeft d' ⊎ (cover_line q g b low bits d l ≡ in_cover low bits (next q b d l))

  no-space : (d : Due) (m : Line) (o : Option Space) → o ≡ None → leaf_line q b low bits d m o ≡ in_cover low bits (next q b d (rule_line m))
  no-space d m o e = ap (leaf_line q b low bits d m) e

  rule-alike : (d : Due) (m : Line) (d' : Due) → next q b d (rule_line m) ≡ on d' → Alike d (rule_line m) d'
  rule-alike d m d' e =
      let same : LeastNext = in_cover low bits (next q b d (rule_line m)) in
      let by : (t : Bool) → LeastNext = λ t. cond t (leaf_line q b low bits d m (tree_space q d)) same in
      elim (by-test (leaves_open m)) [
        | inl t ↦ elim (leaves q b d m t) [
          | inl none ↦ inr (ap by t ∙ no-space d m (tree_space q d) none)
          | inr h ↦ inl (if-on HasLeft (next q b d (rule_line m)) d' e h)
        ]
        | inr t ↦ inr (ap by t)
      ]

  alike : (d : Due) (l : CertLine) (d' : Due) → next q b d l ≡ on d' → Alike d l d'
  alike d over d' e = absurd (if-on (Never q b) (next q b d over) d' e (no_over q b d))
  alike d (rule_line m) d' e = rule-alike d m d' e
  alike d _ d' e = inr refl

  abbrev pub Ends : Course → Loosenings → List State → ℕ → Type 0
  Ends c s lemmas m = c ≡ reached (nothing_due s lemmas (left_open [])) m

  -- so nothing was left on the way
  not-left : (ls : List CertLine) (n : ℕ) (d : Due) (s : Loosenings) (lemmas : List State) (m : ℕ) → Ends (course_of_lines q b n d ls) s lemmas m → HasLeft d → ⊥
  not-left ls n d s lemmas m e h = no_left (subst (AtEnd q b) e (ends_left q b ls n d h))

  -- where the certificate of one check is at its end
  abbrev due-then : Course → Due → Due
  due-then (stopped f n) d = d
  due-then (reached d' n) d = d'

  step-on : (d : Due) (l : CertLine) (rest : List CertLine) (d' : Due) (n : ℕ) → next q b d l ≡ on d' → cover_line q g b low bits d l ≡ in_cover low bits (next q b d l) →
      goal_lines p g room b n (least_due (as_covered low bits d)) (l ∷ rest) ≡ goal_lines p g room b (suc n) (least_due (as_covered low bits d')) rest
  step-on d l rest d' n e h =
      ap (λ (x : LeastDue). goal_lines p g room b n (least_due x) (l ∷ rest)) (not-last d l d' e)
      ∙ ap (λ (x : LeastNext). course_next (as_least x) (suc n) (λ (y : GoalDue). goal_lines p g room b (suc n) y rest)) (h ∙ ap (in_cover low bits) e ∙ covered-on low bits d')

  abbrev pub LeadsOn : Due → List CertLine → Loosenings → List CertLine → Type 0
  LeadsOn d ls s tail = Leads p g room b (least_due (as_covered low bits d)) ls (least_due (covered_due s low [])) tail

  by-next : (d : Due) (l : CertLine) (ls tail : List CertLine) (n : ℕ) (s : Loosenings) (lemmas : List State) (m : ℕ) →
      ((d' : Due) → Ends (course_of_lines q b (suc n) d' ls) s lemmas m → LeadsOn d' (ls ++ tail) s tail) →
      (x : Next) → next q b d l ≡ x → Ends (course_next x (suc n) (λ d'. course_of_lines q b (suc n) d' ls)) s lemmas m → LeadsOn d (l ∷ (ls ++ tail)) s tail
  by-next d l ls tail n s lemmas m ih (faulty f) a h = cc
  by-next d l ls tail n s lemmas m ih (on d') a h = elim (alike d l d' a) [
    | inl left ↦ absurd (not-left ls (suc n) d' s lemmas m h left)
    | inr same ↦ λ k. let y = ih d' h (suc k) in (y.0, step-on d l (ls ++ tail) d' k a same ∙ y.1)
  ]

  -- the same lines lead to the end of the cover
  pub cover_leads : (ls tail : List CertLine) (n : ℕ) (d : Due) (s : Loosenings) (lemmas : List State) (m : ℕ) → Ends (course_of_lines q b n d ls) s lemmas m → LeadsOn d (ls ++ tail) s tail
  cover_leads [] tail n d s lemmas m e =
      let same : d ≡ nothing_due s lemmas (left_open []) = ap (λ (c : Course). due-then c d) e in
      λ k. (k, ap (λ (x : Due). goal_lines p g room b k (least_due (as_covered low bits x)) tail) same)
  cover_leads (l ∷ ls) tail n d s lemmas m e = by-next d l ls tail n s lemmas m (λ d'. cover_leads ls tail (suc n) d' s lemmas m) (next q b d l) refl e
