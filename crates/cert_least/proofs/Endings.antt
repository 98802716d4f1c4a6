-- What is answered where the input ends.
use Rattle.std.proofs.Common.{◌≡◌, ℕ, suc, ◌+◌, Bool, true, false, List, Option, Some, None, Result, Ok, Err, refl, ap, sym, ◌∙◌, subst, arith}
use Rattle.std.specs.Prelude.{option_map}
use Rattle.interval_model.specs.Space.{Space}
use Rattle.dyadic.specs.Rounding.{Dyadic}
use Rattle.dyadic.specs.Views.{dyadic_of, ext_of}
use Rattle.dyadic.specs.declared.dy.Dy.{Dy}
use Rattle.dyadic.specs.declared.dy.Ext as code-ext
use Rattle.poly_graph.specs.ProblemViews.{problem_of}
use Rattle.cover_model.specs.State.{State, Loosenings, atom_enclosure}
use Rattle.cert_model.specs.Due as due
use Rattle.cert_model.specs.Due.{Due, at_point, left_open, margin_due, delta_due, bound_due, kind_due, nothing_due}
use Rattle.cert_model.specs.Accepted.{stopped, reached, at_end, missing}
use Rattle.cert_model.specs.Session.{one_verdict}
use Rattle.cert_model.specs.Least.{plain_due, least_due, GoalCourse, plain_verdict, upper_end}
use Rattle.cert_check.specs.declared.checker.Verdict as check
use Rattle.cert_check.specs.declared.fault.CertFault.{CertFault}
use Rattle.cert_check.specs.declared.fault.CertFault.TheVariants as numbered
use Rattle.cert_check.specs.Checked.{Checked}
use Rattle.cert_check.specs.Courses as checking
use Rattle.cert_check.specs.Courses.{IsFirstVerdict, cover_in, point_in}
use Rattle.cert_check.specs.Faults.{stop_of}
use Rattle.cert_check.specs.Work.{WorkCourse, alone}
use Rattle.cert_least.specs.declared.phase.Phase.{Phase}
use Rattle.cert_least.specs.declared.phase.Phase.TheVariants as phase
use Rattle.cert_least.specs.declared.verdict.GoalVerdict as told
use Rattle.cert_least.specs.declared.verdict.GoalVerdict.TheVariants as tells
use Rattle.cert_least.specs.Aims.{Aim}
use Rattle.cert_least.specs.Courses.{Finishes, IsVerdict, stops_at}
use Rattle.cert_least.specs.Endings.{said}
use Rattle.cert_least.specs.Phases.{cover_value, point_value, course_of, goal_due, IsPlaced, IsSoundPhase, due_in, headed, cover_at, in_cover_at, in_point_at, IsHeaderDue, IsKindDue, IsPointDue}
use Rattle.cert_least.specs.Steps.{renumbered}
use Rattle.cert_least.proofs.Advancing.{reached_where}
use Rattle.cert_least.proofs.Numbered.{renumbered_stops, course_here}
use Rattle.cert_least.proofs.Verdicts.{memory_alone, stops_so, stopped_somewhere}

same-number : (lines : ℕ) → suc lines ≡ lines + 1
same-number lines = omega arith

-- ---- what the checker of the check tells of a whole cover or point

cover-told : (d : Due) (n : ℕ) → option_map (λ (x : Loosenings × List State). x.0) (cover_in (Some (reached (alone d) n))) ≡ cover_value d
cover-told (nothing_due s lemmas (left_open left)) n = refl
cover-told (nothing_due s lemmas (at_point space)) n = refl
cover-told _ n = refl

pub cover_is : (c : Option WorkCourse) (d : Due) → due_in c ≡ Some d → (o : Option (Loosenings × List State)) → cover_in c ≡ o → cover_value d ≡ option_map (λ (x : Loosenings × List State). x.0) o
cover_is c d e o h =
    let at = reached_where c d e in
    sym (cover-told d at.lines) ∙ ap (λ (x : Option WorkCourse). option_map (λ (y : Loosenings × List State). y.0) (cover_in x)) (sym at.course) ∙ ap (option_map (λ (y : Loosenings × List State). y.0)) h

point-told : (d : Due) (n : ℕ) → point_in (Some (reached (alone d) n)) ≡ point_value d
point-told (nothing_due s lemmas (left_open left)) n = refl
point-told (nothing_due s lemmas (at_point space)) n = refl
point-told _ n = refl

pub point_is : (c : Option WorkCourse) (d : Due) → due_in c ≡ Some d → (o : Option Space) → point_in c ≡ o → point_value d ≡ o
point_is c d e o h = let at = reached_where c d e in sym (point-told d at.lines) ∙ ap point_in (sym at.course) ∙ h

-- ---- endings

module _ (a : Aim) (lines : ℕ) where
  refused-so : (g : due.CertFault) (f : CertFault) → stop_of f ≡ Some (stopped g (lines + 1)) → Some (stopped g (suc lines)) ≡ stop_of f
  refused-so g f e = ap (λ (k : ℕ). Some (stopped g k)) (same-number lines) ∙ sym e

  plain-ok : (d : Due) (n : ℕ) (w : check.Verdict) → IsFirstVerdict (one_verdict (at_end d n)) (Ok w) → IsVerdict a (plain_verdict (at_end d lines)) (Ok (tells.Check w))
  plain-ok (nothing_due s lemmas v) n w h = h
  plain-ok _ n w h = absurd h

  plain-err : (d : Due) (n : ℕ) (f : CertFault) → IsFirstVerdict (one_verdict (at_end d n)) (Err f) → IsVerdict a (plain_verdict (at_end d lines)) (Err (renumbered f (lines + 1)))
  plain-err (nothing_due s lemmas v) n f h = absurd h
  plain-err d n f h = refused-so (missing d) (renumbered f (lines + 1)) (renumbered_stops f (missing d) (suc n) (lines + 1) (sym h))

  first-verdict : (c : Option WorkCourse) (d : Due) (r : Result check.Verdict CertFault) → (e : due_in c ≡ Some d) → checking.Finishes c r → IsFirstVerdict (one_verdict (at_end d (reached_where c d e).lines)) r
  first-verdict c d r e h = subst (λ (x : Option WorkCourse). checking.Finishes x r) (reached_where c d e).course h

  pub plain_ok : (c : Option WorkCourse) (w : check.Verdict) → checking.Finishes c (Ok w) → (d : Due) → due_in c ≡ Some d → Finishes a (Some (reached (plain_due d) lines)) (Ok (tells.Check w))
  plain_ok c w h d e = plain-ok d (reached_where c d e).lines w (first-verdict c d (Ok w) e h)

  pub plain_err : (c : Option WorkCourse) (f : CertFault) → checking.Finishes c (Err f) → (d : Due) → due_in c ≡ Some d → Finishes a (Some (reached (plain_due d) lines)) (Err (renumbered f (lines + 1)))
  plain_err c f h d e = plain-err d (reached_where c d e).lines f (first-verdict c d (Err f) e h)

  pub header_ends : (s : Loosenings) (t : Bool) (d : Due) → IsHeaderDue s d → Finishes a (Some (reached (headed t d) lines)) (Err (numbered.BadHeader (lines + 1)))
  header_ends s true (margin_due v) h = refused-so due.BadHeader (numbered.BadHeader (lines + 1)) refl
  header_ends s true (delta_due v m) h = refused-so due.BadHeader (numbered.BadHeader (lines + 1)) refl
  header_ends s true (bound_due s') h = refused-so due.BadHeader (numbered.BadHeader (lines + 1)) refl
  header_ends s false (margin_due v) h = refused-so due.BadHeader (numbered.BadHeader (lines + 1)) refl
  header_ends s false (delta_due v m) h = refused-so due.BadHeader (numbered.BadHeader (lines + 1)) refl
  header_ends s false (bound_due s') h = refused-so due.BadHeader (numbered.BadHeader (lines + 1)) refl
  header_ends s t _ h = absurd h

  pub lower_ends : (s : Loosenings) (t : Bool) (d : Due) → IsKindDue s d → Finishes a (Some (reached (headed t d) lines)) (Err (numbered.BadHeader (lines + 1)))
  lower_ends s true (kind_due s') h = refused-so due.BadHeader (numbered.BadHeader (lines + 1)) refl
  lower_ends s false (kind_due s') h = refused-so due.BadHeader (numbered.BadHeader (lines + 1)) refl
  lower_ends s t _ h = absurd h

  pub cover_missing : (e : Option Dyadic) (k : Option ℕ) (s : Loosenings) (d : Due) → IsKindDue s d → Finishes a (Some (reached (least_due (cover_at e k d)) lines)) (Err (numbered.BadHeader (lines + 1)))
  cover_missing e k s (kind_due s') h = refused-so due.BadHeader (numbered.BadHeader (lines + 1)) refl
  cover_missing e k s _ h = absurd h

  pub cover_goes_on : (e : Option Dyadic) (k : Option ℕ) (d : Due) → cover_value d ≡ None → Finishes a (Some (reached (least_due (in_cover_at e k d)) lines)) (Err (numbered.Missing (lines + 1)))
  cover_goes_on e k (nothing_due s lemmas (left_open left)) h = cc
  cover_goes_on e k _ h = refused-so due.Missing (numbered.Missing (lines + 1)) refl

  pub cover_ends : (e : Option Dy) (k : Option ℕ) (d : Due) (s : Loosenings) → cover_value d ≡ Some s → Finishes a (Some (reached (least_due (in_cover_at (option_map dyadic_of e) k d)) lines)) (Ok (said s e None))
  cover_ends e k (nothing_due s' lemmas (left_open left)) s h =
      let same : s ≡ s' = cc in record { margin = ap (λ (k : Loosenings). k.margin_bits) same; delta = ap (λ (k : Loosenings). k.delta_bits) same; lower = refl; upper = refl }
  cover_ends e k _ s h = cc

  pub point_goes_on : (e : Option Dyadic) (d : Due) → point_value d ≡ None → Finishes a (Some (reached (least_due (in_point_at e d)) lines)) (Err (numbered.Missing (lines + 1)))
  point_goes_on e (nothing_due s lemmas (at_point space)) h = cc
  point_goes_on e _ h = refused-so due.Missing (numbered.Missing (lines + 1)) refl

  pub point_ends : (e : Option Dy) (d : Due) (s : Loosenings) (space : Space) (upper : code-ext.Ext) → IsPointDue s d → point_value d ≡ Some space →
      ext_of upper ≡ upper_end (atom_enclosure (problem_of a.problem) space a.goal) →
      Finishes a (Some (reached (least_due (in_point_at (option_map dyadic_of e) d)) lines)) (Ok (said s e (Some upper)))
  point_ends e (nothing_due s' lemmas (at_point space')) s space upper h k u =
      let same : space ≡ space' = cc in
      record {
        margin = ap (λ (t : Loosenings). t.margin_bits) (sym h);
        delta = ap (λ (t : Loosenings). t.delta_bits) (sym h);
        lower = refl;
        upper = ap (λ x. Some x) (u ∙ ap (λ (x : Space). upper_end (atom_enclosure (problem_of a.problem) x a.goal)) same);
      }
  point_ends e _ s space upper h k u = cc

  -- in this phase
  pub ends_in : (x y : Phase) (c : Checked) (r : Result told.GoalVerdict CertFault) → x ≡ y → IsSoundPhase a x c → (IsSoundPhase a y c → IsPlaced a y c) →
      ((at : IsPlaced a y c) → Finishes a (Some (reached (goal_due y at.due) lines)) r) → Finishes a (course_of x c.course lines) r
  ends_in x y c r e h place k =
      let at = place (subst (λ (z : Phase). IsSoundPhase a z c) e h) in
      subst (λ (z : Phase). Finishes a (course_of z c.course lines) r) (sym e)
      (subst (λ (o : Option GoalCourse). Finishes a o r) (sym (course_here y at.due c.course lines at.fits at.is_due.due)) (k at))

  stopped-ends : (f : CertFault) (o : Option GoalCourse) → o ≡ stops_at f → Finishes a o (Err f)
  stopped-ends f None e = ap (λ (g : CertFault). Err g) (memory_alone f (sym e))
  stopped-ends f (Some (stopped g n)) e = stops_so f (stopped g n) (sym e)
  stopped-ends f (Some (reached d n)) e = absurd (stopped_somewhere f d n (sym e))

  pub stopped_ends : (x : Phase) (f : CertFault) (c : Option WorkCourse) → x ≡ phase.Stopped f → Finishes a (course_of x c lines) (Err f)
  stopped_ends x f c e = stopped-ends f (course_of x c lines) (ap (λ (y : Phase). course_of y c lines) e)
