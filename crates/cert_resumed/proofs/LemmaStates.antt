-- The lemmas of a cover that was read are states of the problem of which no point meets the form at the margin.
use Rattle.std.proofs.Common.{◌≡◌, ℕ, suc, List, [], ◌∷◌, Option, All, sym, ◌∙◌, subst, length}
use Rattle.std.proofs.lemmas.List.Elements.{All-nil, All-cons, All-append, All-weaker}
use Rattle.std.proofs.lemmas.Option.{slice_get_within, get_or_from_slice_get}
use Rattle.poly_graph.specs.Problem.{Problem, IsProblem}
use Rattle.cover_model.specs.State.{State, Loosenings, IsLemma, in_version}
use Rattle.cover_model.specs.Fits.{FitsProblem}
use Rattle.cover_model.specs.Derivation.{AreLemmas}
use Rattle.cover_model.proofs.Sound.{none_left}
use Rattle.cert_read.specs.Lines.{lines_of}
use Rattle.cert_read.specs.CertLine.{CertLine}
use Rattle.cert_model.specs.Due.{Due, version_due, nothing_due, left_open, Next, on, faulty}
use Rattle.cert_model.specs.Accepted.{next, Course, reached, course_next, course_of_lines}
use Rattle.cert_model.proofs.Invariant.{IfOn}
use Rattle.cert_model.proofs.Derives.{IsGrowing, Fine, next_fine}
use Rattle.cert_resumed.specs.Resumed.{CoverRead, IsCoverRead, read_lines}
use Rattle.cert_resumed.proofs.Known.{course_reads}

module _ (p : Problem) (b : Option ℕ) (P : Due → Type 0) (step : (d : Due) (l : CertLine) → P d → IfOn P (next p b d l)) where
  on-reached : (x : Next) (n m : ℕ) (k : Due → Course) (e : Due) → IfOn P x → ((d : Due) → P d → k d ≡ reached e m → P e) → course_next x n k ≡ reached e m → P e
  on-reached (on d) n m k e h f z = f d h z
  on-reached (faulty f') n m k e h f z = cc

  -- what holds at first, and goes on to hold, holds where the lines lead
  holds-where-reached : (ls : List CertLine) (n m : ℕ) (d e : Due) → P d → course_of_lines p b n d ls ≡ reached e m → P e
  holds-where-reached [] n m d e h z = let same : d ≡ e = cc in subst P same h
  holds-where-reached (l ∷ ls) n m d e h z = on-reached (next p b d l) (suc n) m _ e (step d l h) (λ d' h' z'. holds-where-reached ls (suc n) m d' e h' z') z

module _ (p : Problem) (g : IsProblem p) where
  abbrev HoldsOf : Loosenings → State → Type 0
  HoldsOf s L = FitsProblem p L × IsLemma p s L

  are-lemmas : (s : Loosenings) (lemmas : List State) → All (HoldsOf s) lemmas → AreLemmas p s lemmas
  are-lemmas s lemmas h i L e = subst (IsLemma p s) (get_or_from_slice_get lemmas i L L e) (h i L (slice_get_within lemmas i L e)).1

  growing : IsGrowing p (λ s lemmas. All (HoldsOf s) lemmas)
  growing = record {
    none = λ s. All-nil (HoldsOf s);
    more = λ s lemmas L h f t r. All-append (HoldsOf s) lemmas (L ∷ []) h (All-cons (HoldsOf s) L [] (f, none_left p s g lemmas (are-lemmas s lemmas h) r) (All-nil (HoldsOf s)));
  }

  pub lemmas_fit : (b : Option ℕ) (bytes : List ℕ) (c : CoverRead) → IsCoverRead p b bytes c → (v : ℕ) → All (λ (L : State). FitsProblem p L × IsLemma p (in_version v c.loosenings) L) c.lemmas
  lemmas_fit b bytes c h v =
      let Sound : Loosenings → List State → Type 0 = λ s lemmas. All (HoldsOf s) lemmas in
      let last : Due = nothing_due c.loosenings c.lemmas (left_open c.left) in
      let at-end : Fine p Sound last = holds-where-reached p b (Fine p Sound) (next_fine p b Sound growing) (read_lines b c) 0 (length (lines_of bytes)) version_due last (tt {0})
      (sym (course_reads p b (lines_of bytes) (read_lines b c) h.lines 0 version_due) ∙ h.ends) in
      All-weaker (HoldsOf c.loosenings) (HoldsOf (in_version v c.loosenings))
      (λ L k. (k.0, λ point q m. k.1 point (record { sorted = q.sorted; inside = q.inside; yes = q.yes; no = q.no }) m)) c.lemmas at-end.0
