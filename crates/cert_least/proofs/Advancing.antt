-- A line that is given to the checker of the check.
use Rattle.std.proofs.Common.{◌≡◌, ◌⊎◌, ℕ, suc, [], ◌∷◌, Option, Some, None, Result, Ok, Err, refl, ap, sym, ◌∙◌, subst, inl, inr}
use Rattle.std.specs.Prelude.{option_map}
use Rattle.poly_graph.specs.Problem.{Problem}
use Rattle.poly_graph.specs.ProblemViews.{Parts, problem_of}
use Rattle.cert_read.specs.CertLine.{CertLine, line}
use Rattle.cert_model.specs.Due.{Due, Next, on, faulty}
use Rattle.cert_model.specs.Accepted.{next, stopped, reached}
use Rattle.cert_check.specs.declared.fault.CertFault.{CertFault}
use Rattle.cert_check.specs.Checked.{Checked, one_check}
use Rattle.cert_check.specs.Courses.{after, after_all, leads, stops_at, IsCourseAnswer, IsUnderWay, Takes}
use Rattle.cert_check.specs.Dues.{lean, next_map}
use Rattle.cert_check.specs.Work.{Checks, WorkCourse, alone, together, lean_work}
use Rattle.cert_check.proofs.VerdictAnswers.{memory_alone, stops_so, stopped_somewhere}
use Rattle.cert_least.specs.declared.phase.Phase.{Phase}
use Rattle.cert_least.specs.Phases.{due_in, IsDueTo}
use Rattle.cert_least.specs.Steps.{IsAdvanced, IsFaultOrMemory, IsGone}

some-same : {A : Type 0} {x y : A} → Some x ≡ Some y → x ≡ y
some-same e = cc

-- a course where this is due to a checker of one check
pub record IsReached (c : Option WorkCourse) (d : Due) : Type 0 where
  pub lines : ℕ
  pub course : c ≡ Some (reached (alone d) lines)

pub reached_where : (c : Option WorkCourse) (d : Due) → due_in c ≡ Some d → IsReached c d
reached_where None d e = cc
reached_where (Some (stopped f n)) d e = cc
reached_where (Some (reached (alone d') n)) d e = record { lines = n; course = ap (λ (x : Due). Some (reached (alone x) n)) (some-same e) }
reached_where (Some (reached (together t) n)) d e = cc

module _ (p : Problem) (b : Option ℕ) (q : Parts) (same : problem_of q ≡ p) (new : Checked) (n : ℕ) where
  abbrev Leads : Next → Type 0
  Leads x = new.course ≡ Some (leads (suc n) (next_map lean_work (next_map (λ (d : Due). alone d) x)))

  goes-on : (x : Next) → Leads x → IsUnderWay new.course → new.checks ≡ one_check q b → IsAdvanced p b x new
  goes-on (on d) e u k = record { due = lean d; leads = refl; is_due = record { parts = q; problem = same; checks = k; due = ap due_in e } }
  goes-on (faulty f) e u k = absurd (subst IsUnderWay e u)

  stops : (x : Next) → Leads x → (f : CertFault) → new.course ≡ stops_at f → IsFaultOrMemory f x
  stops (on d) e f h = absurd (stopped_somewhere f (alone (lean d)) (suc n) (sym h ∙ e))
  stops (faulty g) e f h = inr (record { fault = g; says = refl; told = record { line = suc n; told = sym (stops_so f (stopped g (suc n)) (sym h ∙ e)) } })

  under-way : new.course ≡ None → IsUnderWay new.course → ⊥
  under-way e u = subst IsUnderWay e u

  outcome : (x : Next) (phase : Phase) → (new.course ≡ None) ⊎ Leads x → new.checks ≡ one_check q b → (r : Result (Unit {0}) CertFault) → IsCourseAnswer new.course r → (answer : Result Phase CertFault) →
      ((t : Unit {0}) → r ≡ Ok t → answer ≡ Ok phase) → ((f : CertFault) → r ≡ Err f → answer ≡ Err f) → IsGone p b x phase new answer
  outcome x phase (inl e) k (Ok t) a answer ok err = absurd (under-way e a)
  outcome x phase (inl e) k (Err f) a answer ok err = subst (IsGone p b x phase new) (sym (err f refl)) (inl (memory_alone f (sym a ∙ e)))
  outcome x phase (inr e) k (Ok t) a answer ok err = subst (IsGone p b x phase new) (sym (ok t refl)) (refl, goes-on x e a k)
  outcome x phase (inr e) k (Err f) a answer ok err = subst (IsGone p b x phase new) (sym (err f refl)) (stops x e f a)

-- the line leads where the definitions have it
led-so : (p : Problem) (b : Option ℕ) (q : Parts) → problem_of q ≡ p → (d : Due) (n : ℕ) (old : Checked) (l : CertLine) → old.checks ≡ one_check q b → old.course ≡ Some (reached (alone d) n) →
    option_map (λ (c : WorkCourse). after_all old.checks c (line l ∷ [])) old.course ≡ Some (leads (suc n) (next_map lean_work (next_map (λ (e : Due). alone e) (next p b d l))))
led-so p b q same d n old l k e =
    ap (option_map (λ (c : WorkCourse). after_all old.checks c (line l ∷ []))) e ∙ ap (λ (c : Checks). Some (after c (reached (alone d) n) (line l))) k
    ∙ ap (λ (p' : Problem). Some (leads (suc n) (next_map lean_work (next_map (λ (e' : Due). alone e') (next p' b d l))))) same

pub given : (old new : Checked) (l : CertLine) (phase : Phase) (r : Result (Unit {0}) CertFault) (answer : Result Phase CertFault) → Takes old (line l ∷ []) new r →
    ((t : Unit {0}) → r ≡ Ok t → answer ≡ Ok phase) → ((f : CertFault) → r ≡ Err f → answer ≡ Err f) →
    (p : Problem) (b : Option ℕ) (d : Due) → IsDueTo p b d old → IsGone p b (next p b d l) phase new answer
given old new l phase r answer t ok err p b d h =
    let at = reached_where old.course d h.due in
    outcome p b h.parts h.problem new at.lines (next p b d l) phase
    (elim t.course [ inl e ↦ inl e | inr e ↦ inr (e ∙ led-so p b h.parts h.problem d at.lines old l h.checks at.course) ])
    (t.checks ∙ h.checks) r t.answers answer ok err
