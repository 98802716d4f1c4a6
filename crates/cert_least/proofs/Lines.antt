-- Where one line leads, phase by phase.
use Rattle.std.proofs.Common.{◌≡◌, ℕ, List, [], ◌∷◌, Bool, true, false, cond, Option, Some, None, Result, Ok, Err, IsTrue, refl, ap, sym, ◌∙◌, subst, inl, inr}
use Rattle.std.specs.Prelude.{option_map}
use Rattle.interval_model.specs.Space.{Space}
use Rattle.dyadic.specs.Rounding.{Dyadic}
use Rattle.dyadic.specs.Views.{dyadic_of}
use Rattle.dyadic.specs.declared.dy.Dy.{Dy}
use Rattle.dyadic.proofs.Equal.{both_pass}
use Rattle.poly_graph.specs.Problem.{Declared, real_between, any_bool, Axis, Problem}
use Rattle.poly_graph.specs.ProblemViews.{Parts, problem_of}
use Rattle.cover_line.specs.Words.{word_of}
use Rattle.cover_model.specs.State.{State, Loosenings}
use Rattle.cover_model.specs.Rules.{has_version_5, Line, open_line}
use Rattle.cert_read.specs.CertLine.{CertLine, version, margin, delta, bound, lower, goal, cover, point_word, end_word, real_value, bool_value, says_both, says_true, says_false, rule_line, over}
use Rattle.cert_model.specs.Due.{BadHeader, WrongBound, NotShown, RuleFails, OverFails, BadNumber, at_point, left_open, Due, version_due, margin_due, delta_due, bound_due, kind_due, root_due, tree_due, coordinate_due, end_due, nothing_due, Next, on, faulty, given, names_well, is_version, same_bound, is_shown, coordinate_next, is_crossed_box}
use Rattle.cert_model.specs.Due as due
use Rattle.cert_model.specs.Accepted.{next, ruled_line, loosenings_fit, is_header, coordinate_line}
use Rattle.goal_limit.specs.Limits.{has_room}
use Rattle.cert_model.specs.Least.{header_due, lower_due, cover_due, in_cover_due, covered_due, in_header, in_cover, in_point, is_over, can_limit, searched, tree_space, over_line, leaves_open, leaf_line, GoalNext, plain_due, least_due, as_plain, as_least}
use Rattle.cert_check.specs.declared.fault.CertFault.{CertFault}
use Rattle.cert_check.specs.declared.loosenings.Loosenings as code
use Rattle.cert_check.specs.Checked.{Checked}
use Rattle.cert_check.specs.Dues.{lean, lean_next, next_map}
use Rattle.cert_check.specs.States.{loosenings_of}
use Rattle.cert_least.specs.declared.phase.Phase.{Phase}
use Rattle.cert_least.specs.declared.phase.Phase.TheVariants as phase
use Rattle.cert_least.specs.declared.phase.Scope.{Scope}
use Rattle.cert_least.specs.declared.phase.Told.{Told}
use Rattle.cert_least.specs.Aims.{Aim, aim_next, lean_goal}
use Rattle.cert_least.specs.Phases.{told_of, lower_of, cover_value, header_at, headed, tells_later, cover_at, in_cover_at, in_point_at, goal_due, IsPlainDue, IsHeaderDue, IsKindDue, IsPointDue, HasHeader, IsDueIn, IsDueTo, problem_in, searched_by}
use Rattle.cert_least.specs.Said.{header_phase, IsLeastIn, IsOpenIn, IsLowerIn, IsCoverIn, IsLimitIn, IsOther}
use Rattle.cert_least.specs.Steps.{IsFaultOrMemory, IsGone, IsPhaseOn, IsPhaseOutcome, IsToldAs, IsBegun, IsLimitBy, leaf_refusal}
use Rattle.cert_least.proofs.Leans.{plain_leads, header_leads, cover_leads, point_leads}
use Rattle.cert_least.proofs.Behind.{Behind, next_behind, version_behind, kind_behind, behind_lean}
use Rattle.cert_least.proofs.Headers.{header_stays, header_told, kind_has_header}

on-same : {d e : Due} → on d ≡ on e → d ≡ e
on-same e = cc

faulty-back : (y : GoalNext) (f : due.CertFault) → next_map lean_goal y ≡ faulty f → y ≡ faulty f
faulty-back (on d) f e = cc
faulty-back (faulty g) f e = e

-- ---- a line that is given to the checker of the check

module _ (a : Aim) (p : Problem) (new : Checked) where
  gone : (x : Next) (y : GoalNext) (phase : Phase) → problem_in a phase ≡ p → next_map lean_goal y ≡ next_map (goal_due phase) (lean_next x) → ((d : Due) → lean_next x ≡ on d → IsDueIn phase d) →
      (r : Result Phase CertFault) → IsGone p a.bound x phase new r → IsPhaseOutcome a y new r
  gone x y phase same rel fits (Ok q) h =
      let k = h.1 in
      subst (λ (q' : Phase). IsPhaseOn a y new q') (sym h.0)
      (record { due = k.due; is_due = subst (λ (p' : Problem). IsDueTo p' a.bound k.due new) (sym same) k.is_due; fits = fits k.due k.leads; leads = rel ∙ ap (next_map (goal_due phase)) k.leads })
  gone x y phase same rel fits (Err f) (inl e) = inl e
  gone x y phase same rel fits (Err f) (inr h) =
      inr (record { fault = h.fault; says = faulty-back y h.fault (rel ∙ ap (λ (z : Next). next_map (goal_due phase) (lean_next z)) h.says); told = h.told })

-- a fault that is told of some line
pub told_fault : (y : GoalNext) (f : CertFault) (g : due.CertFault) → y ≡ faulty g → IsToldAs f g → IsFaultOrMemory f y
told_fault y f g e t = inr (record { fault = g; says = e; told = t })

module _ (a : Aim) where
  abbrev P : Problem
  P = problem_of a.problem

  abbrev b : Option ℕ
  b = a.bound

  abbrev Goes : Phase → Due → CertLine → Checked → Result Phase CertFault → Type 0
  Goes x d l new r = IsPhaseOutcome a (aim_next a (goal_due x d) l) new r

  -- ---- the first line

  abbrev first : Told
  first = record { version = 2; margin = 0; delta = 0 }

  header-here : (d : Due) → on (margin_due 2) ≡ on d → IsHeaderDue (told_of first) d
  header-here d e = subst (IsHeaderDue (told_of first)) (on-same e) (refl, refl)

  pub first_least : (l : CertLine) → IsLeastIn true l → (d : Due) → d ≡ version_due → (new : Checked) (r : Result Phase CertFault) → IsGone P b (next P b d (version 2)) (phase.Header first) new r →
      Goes phase.Version d l new r
  first_least l e d e' new r h =
      subst (λ (d' : Due). Goes phase.Version d' l new r) (sym e') (subst (λ (l' : CertLine). Goes phase.Version version_due l' new r) (sym e)
      (gone a P new (next P b version_due (version 2)) (aim_next a (plain_due version_due) (version 4)) (phase.Header first) refl refl header-here r
      (subst (λ (d' : Due). IsGone P b (next P b d' (version 2)) (phase.Header first) new r) e' h)))

  abbrev fifth : Told
  fifth = record { version = 5; margin = 0; delta = 0 }

  open-here : (d : Due) → on (margin_due 5) ≡ on d → IsHeaderDue (told_of fifth) d
  open-here d e = subst (IsHeaderDue (told_of fifth)) (on-same e) (refl, refl)

  pub first_open : (l : CertLine) → IsOpenIn true l → (d : Due) → d ≡ version_due → (new : Checked) (r : Result Phase CertFault) → IsGone P b (next P b d l) (phase.Header fifth) new r →
      Goes phase.Version d l new r
  first_open l e d e' new r h =
      subst (λ (d' : Due). Goes phase.Version d' l new r) (sym e') (subst (λ (l' : CertLine). Goes phase.Version version_due l' new r) (sym e)
      (gone a P new (next P b version_due (version 5)) (aim_next a (plain_due version_due) (version 5)) (phase.Header fifth) refl refl open-here r
      (subst (λ (l' : CertLine). IsGone P b (next P b version_due l') (phase.Header fifth) new r) e (subst (λ (d' : Due). IsGone P b (next P b d' l) (phase.Header fifth) new r) e' h))))

  plain-start : (l : CertLine) → IsLeastIn false l → aim_next a (plain_due version_due) l ≡ as_plain (next P b version_due l)
  plain-start (version v) h = ap (λ (t : Bool). cond t (on (least_due (header_due (margin_due 2)))) (as_plain (next P b version_due (version v)))) h
  plain-start _ h = refl

  plain-on : (d : Due) (l : CertLine) → IsPlainDue d → aim_next a (plain_due d) l ≡ as_plain (next P b d l)
  plain-on version_due l h = absurd h
  plain-on (kind_due s) (lower e) h = ap (λ (t : Bool). cond t (on (least_due (cover_due s e None))) (as_plain (next P b (kind_due s) (lower e)))) h
  plain-on _ l h = refl

  plain-gone : (d : Due) (l : CertLine) → aim_next a (plain_due d) l ≡ as_plain (next P b d l) → Behind (next P b d l) → (new : Checked) (r : Result Phase CertFault) → IsGone P b (next P b d l) phase.Plain new r →
      IsPhaseOutcome a (aim_next a (plain_due d) l) new r
  plain-gone d l e f new r h =
      gone a P new (next P b d l) (aim_next a (plain_due d) l) phase.Plain refl (ap (next_map lean_goal) e ∙ plain_leads (next P b d l))
      (behind_lean (next P b d l) f) r h

  pub first_plain : (l : CertLine) → IsLeastIn false l → IsOpenIn false l → (d : Due) → d ≡ version_due → (new : Checked) (r : Result Phase CertFault) → IsGone P b (next P b d l) phase.Plain new r →
      Goes phase.Version d l new r
  first_plain l h g d e new r k =
      subst (λ (d' : Due). Goes phase.Version d' l new r) (sym e)
      (plain-gone version_due l (plain-start l h) (version_behind P b l g) new r (subst (λ (d' : Due). IsGone P b (next P b d' l) phase.Plain new r) e k))

  pub plain_on : (l : CertLine) (d : Due) → IsPlainDue d → (new : Checked) (r : Result Phase CertFault) → IsGone P b (next P b d l) phase.Plain new r → Goes phase.Plain d l new r
  plain_on l d h new r k = plain-gone d l (plain-on d l h) (next_behind P b d l h) new r k

  -- ---- the header

  in-header-on : (s : Loosenings) (d : Due) (l : CertLine) → IsHeaderDue s d → aim_next a (least_due (header_at d)) l ≡ as_least (in_header (next P b d l))
  in-header-on s (margin_due v) l h = refl
  in-header-on s (delta_due v m) l h = refl
  in-header-on s (bound_due s') l h = refl
  in-header-on s _ l h = absurd h

  open-header-on : (s : Loosenings) (d : Due) (l : CertLine) → IsHeaderDue s d → aim_next a (plain_due d) l ≡ as_plain (next P b d l)
  open-header-on s (margin_due v) l h = refl
  open-header-on s (delta_due v m) l h = refl
  open-header-on s (bound_due s') l h = refl
  open-header-on s _ l h = absurd h

  headed-leads : (t : Bool) (s : Loosenings) (d : Due) (l : CertLine) → IsHeaderDue s d → next_map lean_goal (aim_next a (headed t d) l) ≡ next_map (headed t) (lean_next (next P b d l))
  headed-leads true s d l h = ap (next_map lean_goal) (open-header-on s d l h) ∙ plain_leads (next P b d l)
  headed-leads false s d l h = ap (next_map lean_goal) (in-header-on s d l h) ∙ header_leads (next P b d l)

  header-phase : (t : Told) (l : CertLine) (x : Next) → next_map (headed (tells_later t)) x ≡ next_map (goal_due (header_phase t l)) x
  header-phase t (margin m) x = refl
  header-phase t (delta m) x = refl
  header-phase t (bound n) x = refl
  header-phase t _ x = refl

  header-problem : (t : Told) (l : CertLine) → problem_in a (header_phase t l) ≡ P
  header-problem t (margin m) = refl
  header-problem t (delta m) = refl
  header-problem t (bound n) = refl
  header-problem t _ = refl

  delta-fits : (t : Bool) (s s' : Loosenings) → s ≡ s' → IsTrue (is_version s'.version) → loosenings_fit s'.margin_bits s'.delta_bits ≡ t → (d : Due) → lean_next (given t (bound_due s) BadHeader) ≡ on d →
      IsHeaderDue s' d
  delta-fits true s s' h v k d e = subst (IsHeaderDue s') (on-same e) (h, both_pass (is_version s'.version) (loosenings_fit s'.margin_bits s'.delta_bits) v k)
  delta-fits false s s' h v k d e = cc

  bound-fits : (t : Bool) (s s' : Loosenings) → (s ≡ s') × IsTrue (is_header s') → (d : Due) → lean_next (given t (kind_due s) WrongBound) ≡ on d → IsKindDue s' d
  bound-fits true s s' h d e = subst (IsKindDue s') (on-same e) h
  bound-fits false s s' h d e = cc

  abbrev loose : ℕ → ℕ → ℕ → Loosenings
  loose m n v = record { margin_bits = m; delta_bits = n; version = v }

  loosened : (v v' m m' n : ℕ) → v ≡ v' → m ≡ m' → loose m n v ≡ loose m' n v'
  loosened v v' m m' n e e' = ap (loose m n) e ∙ ap (λ (k : ℕ). loose k n v') e'

  header-fits : (t : Told) (d : Due) (l : CertLine) → IsHeaderDue (told_of t) d → (d' : Due) → lean_next (next P b d l) ≡ on d' → IsDueIn (header_phase t l) d'
  header-fits t (margin_due v) (margin m) h d' e = subst (IsHeaderDue (told_of (record t { margin = m }))) (on-same e) (h.0, refl, h.1)
  header-fits t (margin_due v) _ h d' e = cc
  header-fits t (delta_due v m) (delta n) h d' e =
      delta-fits (loosenings_fit m n) (record { margin_bits = m; delta_bits = n; version = v }) (told_of (record t { delta = n })) (loosened v t.version m t.margin n h.0 h.1) h.2
      (ap (λ (k : ℕ). loosenings_fit k n) (sym h.1)) d' e
  header-fits t (delta_due v m) _ h d' e = cc
  header-fits t (bound_due s) (bound n) h d' e = bound-fits (same_bound n b) s (told_of t) h d' e
  header-fits t (bound_due s) _ h d' e = cc
  header-fits t _ l h d' e = absurd h

  pub header_on : (t : Told) (l : CertLine) (d : Due) → IsHeaderDue (told_of t) d → (new : Checked) (r : Result Phase CertFault) → IsGone P b (next P b d l) (header_phase t l) new r → Goes (phase.Header t) d l new r
  header_on t l d h new r k =
      gone a P new (next P b d l) (aim_next a (headed (tells_later t) d) l) (header_phase t l) (header-problem t l)
      (headed-leads (tells_later t) (told_of t) d l h ∙ header-phase t l (lean_next (next P b d l)))
      (header-fits t d l h) r k

  -- ---- the lower bound

  abbrev unlimited : Option Dy → Scope
  unlimited e = record { lower = e; bits = None }

  lower-on : (u : Bool) (t : Told) → tells_later t ≡ u → (e : Option Dy) (d : Due) → IsKindDue (told_of t) d →
      next_map lean_goal (aim_next a (headed u d) (lower (option_map dyadic_of e))) ≡ on (goal_due (phase.Cover t (unlimited e)) d)
  lower-on false t w e (kind_due s) h = refl
  lower-on true t w e (kind_due s) h =
      let low : Option Dyadic = option_map dyadic_of e in
      ap (λ (v : Bool). next_map lean_goal (cond v (on (least_due (cover_due s low None))) (as_plain (next P b (kind_due s) (lower low))))) (ap has_version_5 h.0 ∙ w)
  lower-on u t w e _ h = absurd h

  pub lower_on : (t : Told) (l : CertLine) (e : Option Dy) → IsLowerIn (Some e) l → (d : Due) (c : Checked) → IsDueTo P b d c → IsKindDue (told_of t) d →
      IsPhaseOn a (aim_next a (goal_due (phase.Lower t) d) l) c (phase.Cover t (unlimited e))
  lower_on t l e k d c at h = record {
    due = d;
    is_due = subst (λ (p : Problem). IsDueTo p b d c) (same (option_map dyadic_of e)) at;
    fits = h;
    leads = ap (λ (l' : CertLine). next_map lean_goal (aim_next a (headed (tells_later t) d) l')) k ∙ lower-on (tells_later t) t refl e d h;
  } where
    same : (low : Option Dyadic) → P ≡ searched P a.goal low None
    same None = refl
    same (Some x) = refl

  no-lower : (s : Loosenings) (l : CertLine) → IsLowerIn None l → aim_next a (least_due (lower_due s)) l ≡ faulty BadHeader
  no-lower s (lower e) h = absurd h
  no-lower s _ h = refl

  no-lower-at : (s : Loosenings) (d : Due) (l : CertLine) → IsKindDue s d → IsLowerIn None l → aim_next a (least_due (header_at d)) l ≡ faulty BadHeader
  no-lower-at s (kind_due s') l k h = no-lower s' l h
  no-lower-at s _ l k h = absurd k

  pub lower_missing : (t : Told) → tells_later t ≡ false → (l : CertLine) → IsLowerIn None l → (d : Due) → IsKindDue (told_of t) d → (f : CertFault) → IsToldAs f BadHeader →
      IsFaultOrMemory f (aim_next a (goal_due (phase.Lower t) d) l)
  lower_missing t e l h d k f w =
      subst (λ (u : Bool). IsFaultOrMemory f (aim_next a (headed u d) l)) (sym e)
      (told_fault (aim_next a (least_due (header_at d)) l) f BadHeader (no-lower-at (told_of t) d l k h) w)

  check-on : (s : Loosenings) (d : Due) (l : CertLine) → IsKindDue s d → IsLowerIn None l → aim_next a (plain_due d) l ≡ as_plain (next P b d l)
  check-on s (kind_due s') (lower e) k h = absurd h
  check-on s (kind_due s') _ k h = refl
  check-on s _ l k h = absurd k

  check-behind : (s : Loosenings) (d : Due) (l : CertLine) → IsKindDue s d → Behind (next P b d l)
  check-behind s (kind_due s') l k = kind_behind P b s' l
  check-behind s _ l k = absurd k

  -- a line of a certificate of the check
  pub check_on : (t : Told) → tells_later t ≡ true → (l : CertLine) → IsLowerIn None l → (d : Due) → IsKindDue (told_of t) d → (new : Checked) (r : Result Phase CertFault) →
      IsGone P b (next P b d l) phase.Plain new r → Goes (phase.Lower t) d l new r
  check_on t e l h d k new r g =
      subst (λ (u : Bool). IsPhaseOutcome a (aim_next a (headed u d) l) new r) (sym e)
      (plain-gone d l (check-on (told_of t) d l k h) (check-behind (told_of t) d l k) new r g)

  -- ---- the limit of the goal

  abbrev limited-by : Option Dy → ℕ → Scope
  limited-by e k = record { lower = e; bits = Some k }

  abbrev Limit : Option Dy → ℕ → Due → GoalNext
  Limit e k d = aim_next a (least_due (cover_at (option_map dyadic_of e) None d)) (goal k)

  limit-is : (s : Loosenings) (e : Option Dy) (k : ℕ) (d : Due) (t : Bool) → IsKindDue s d → can_limit P (has_room (problem_of a.problem)) (option_map dyadic_of e) k ≡ t →
      Limit e k d ≡ as_least (cond t (on (cover_due s (option_map dyadic_of e) (Some k))) (faulty BadHeader))
  limit-is s e k (kind_due s') t h c =
      ap (λ (u : Bool). as_least (cond u (on (cover_due s' (option_map dyadic_of e) (Some k))) (faulty BadHeader))) c
      ∙ ap (λ (x : Loosenings). as_least (cond t (on (cover_due x (option_map dyadic_of e) (Some k))) (faulty BadHeader))) h.0
  limit-is s e k _ t h c = absurd h

  pub limit_fails : (s : Loosenings) (e : Option Dy) (k : ℕ) (d : Due) → IsKindDue s d → IsLimitBy a (option_map dyadic_of e) k None → (f : CertFault) → IsToldAs f BadHeader → IsFaultOrMemory f (Limit e k d)
  limit_fails s e k d h c f t = told_fault (Limit e k d) f BadHeader (limit-is s e k d false h c) t

  pub limit_on : (t : Told) (e : Option Dy) (k : ℕ) (d : Due) → IsKindDue (told_of t) d → (q : Parts) → IsLimitBy a (option_map dyadic_of e) k (Some q) → (new : Checked) (r : Result Phase CertFault) →
      IsBegun (problem_of q) b t (phase.Cover t (limited-by e k)) new r → IsPhaseOutcome a (Limit e k d) new r
  limit_on t e k d h q c new (Err f) g = inl g
  limit_on t e k d h q c new (Ok x) g = subst (λ (x' : Phase). IsPhaseOn a (Limit e k d) new x') (sym g.0) (record {
    due = kind_due (told_of t);
    is_due = subst (λ (p : Problem). IsDueTo p b (kind_due (told_of t)) new) c.1 g.1;
    fits = (refl, header_told (told_of t) d h);
    leads = ap (next_map lean_goal) (limit-is (told_of t) e k d true h c.0);
  })

  -- ---- the first line of the cover

  cover-on : (s : Loosenings) (e : Option Dyadic) (k : Option ℕ) (d : Due) (l : CertLine) → IsKindDue s d → IsCoverIn true l →
      aim_next a (least_due (cover_at e k d)) l ≡ as_least (in_cover e k (next (searched P a.goal e k) b d l))
  cover-on s e None (kind_due s') (cover n) h c = refl
  cover-on s e (Some k) (kind_due s') (cover n) h c = refl
  cover-on s e k (kind_due s') _ h c = absurd c
  cover-on s e k _ l h c = absurd h

  pub cover_on : (t : Told) (l : CertLine) (w : Scope) → IsCoverIn true l → (d : Due) → IsKindDue (told_of t) d → (new : Checked) (r : Result Phase CertFault) →
      IsGone (searched_by a w) b (next (searched_by a w) b d l) (phase.InCover w) new r → Goes (phase.Cover t w) d l new r
  cover_on t l w c d h new r k =
      let x = next (searched_by a w) b d l in
      gone a (searched_by a w) new x (aim_next a (least_due (cover_at (lower_of w) w.bits d)) l) (phase.InCover w) refl
      (ap (next_map lean_goal) (cover-on (told_of t) (lower_of w) w.bits d l h c) ∙ cover_leads (lower_of w) w.bits x)
      (header_stays (searched_by a w) b d l (kind_has_header (told_of t) d h)) r k

  no-cover : (s : Loosenings) (e : Option Dyadic) (k : Option ℕ) (d : Due) (l : CertLine) → IsKindDue s d → IsLimitIn k None l → IsCoverIn false l → aim_next a (least_due (cover_at e k d)) l ≡ faulty BadHeader
  no-cover s e None (kind_due s') (goal k) h g c = absurd g
  no-cover s e k (kind_due s') (cover n) h g c = absurd c
  no-cover s e None (kind_due s') _ h g c = refl
  no-cover s e (Some k) (kind_due s') _ h g c = refl
  no-cover s e k _ l h g c = absurd h

  pub cover_missing : (s : Loosenings) (l : CertLine) (e : Option Dyadic) (k : Option ℕ) → IsLimitIn k None l → IsCoverIn false l → (d : Due) → IsKindDue s d → (f : CertFault) → IsToldAs f BadHeader →
      IsFaultOrMemory f (aim_next a (least_due (cover_at e k d)) l)
  cover_missing s l e k g c d h f t = told_fault (aim_next a (least_due (cover_at e k d)) l) f BadHeader (no-cover s e k d l h g c) t

-- a line of the cover
module _ (a : Aim) (w : Scope) where
  abbrev Q : Problem
  Q = searched_by a w

  abbrev c : Option ℕ
  c = a.bound

  abbrev Inside : Due → CertLine → GoalNext
  Inside d l = aim_next a (least_due (in_cover_at (lower_of w) w.bits d)) l

  -- what is due in the cover behind a line that leads so
  abbrev In : Next → GoalNext
  In x = next_map (λ (d : Due). least_due (in_cover_at (lower_of w) w.bits d)) (lean_next x)

  abbrev as-cover : Next → GoalNext
  as-cover x = as_least (in_cover (lower_of w) w.bits x)

  cover-in : (x : Next) → next_map lean_goal (as-cover x) ≡ In x
  cover-in x = cover_leads (lower_of w) w.bits x

  covered-on : (s : Loosenings) (lemmas : List State) (v : due.Value) (l : CertLine) → IsOther l →
      next_map lean_goal (aim_next a (least_due (covered_due s (lower_of w) [])) l) ≡ In (next Q c (nothing_due s lemmas v) l)
  covered-on s lemmas v point_word h = absurd h
  covered-on s lemmas v _ h = refl

  inside-on : (d : Due) (l : CertLine) → IsOther l → aim_next a (least_due (in_cover_due (lower_of w) w.bits d)) l ≡ as-cover (next Q c d l)
  inside-on d over h = absurd h
  inside-on d (rule_line l) h = ap (λ (t : Bool). as_least (cond t (leaf_line Q c (lower_of w) w.bits d l (tree_space Q d)) (in_cover (lower_of w) w.bits (next Q c d (rule_line l))))) h
  inside-on d _ h = refl

  inside-leads : (d : Due) (l : CertLine) → IsOther l → next_map lean_goal (aim_next a (least_due (in_cover_due (lower_of w) w.bits d)) l) ≡ In (next Q c d l)
  inside-leads d l h = ap (next_map lean_goal) (inside-on d l h) ∙ cover-in (next Q c d l)

  other-leads : (d : Due) (l : CertLine) → IsOther l → next_map lean_goal (Inside d l) ≡ In (next Q c d l)
  other-leads (nothing_due s lemmas (left_open left)) l h = covered-on s lemmas (left_open left) l h
  other-leads d l h = inside-leads d l h

  in-cover-gone : (d : Due) → HasHeader d → (l l' : CertLine) → next_map lean_goal (Inside d l) ≡ In (next Q c d l') →
      (new : Checked) (r : Result Phase CertFault) → IsGone Q c (next Q c d l') (phase.InCover w) new r → IsPhaseOutcome a (Inside d l) new r
  in-cover-gone d f l l' rel new r k = gone a Q new (next Q c d l') (Inside d l) (phase.InCover w) refl rel (header_stays Q c d l' f) r k

  pub other_on : (l : CertLine) → IsOther l → (d : Due) → HasHeader d → (new : Checked) (r : Result Phase CertFault) → IsGone Q c (next Q c d l) (phase.InCover w) new r → IsPhaseOutcome a (Inside d l) new r
  other_on l h d f new r k = in-cover-gone d f l l (other-leads d l h) new r k

  -- ---- `over`

  over-none : (d : Due) → tree_space Q d ≡ None → next_map lean_goal (Inside d over) ≡ In (next Q c d over)
  over-none (nothing_due s lemmas (left_open left)) h = refl
  over-none d h = ap (λ (o : Option Space). next_map lean_goal (as_least (over_line Q c a.goal (lower_of w) w.bits d o))) h ∙ cover-in (next Q c d over)

  pub over_elsewhere : (d : Due) → HasHeader d → tree_space Q d ≡ None → (new : Checked) (r : Result Phase CertFault) → IsGone Q c (next Q c d over) (phase.InCover w) new r → IsPhaseOutcome a (Inside d over) new r
  over_elsewhere d f h new r k = in-cover-gone d f over over (over-none d h) new r k

  over-here : (d : Due) (space : Space) (t : Bool) → tree_space Q d ≡ Some space → is_over Q a.goal (lower_of w) space ≡ t →
      Inside d over ≡ as_least (cond t (in_cover (lower_of w) w.bits (next Q c d (rule_line open_line))) (faulty OverFails))
  over-here (nothing_due s lemmas (left_open left)) space t h k = cc
  over-here d space t h k =
      ap (λ (o : Option Space). as_least (over_line Q c a.goal (lower_of w) w.bits d o)) h
      ∙ ap (λ (u : Bool). as_least (cond u (in_cover (lower_of w) w.bits (next Q c d (rule_line open_line))) (faulty OverFails))) k

  pub over_on : (d : Due) → HasHeader d → (space : Space) → tree_space Q d ≡ Some space → is_over Q a.goal (lower_of w) space ≡ true →
      (new : Checked) (r : Result Phase CertFault) → IsGone Q c (next Q c d (rule_line open_line)) (phase.InCover w) new r → IsPhaseOutcome a (Inside d over) new r
  over_on d f space h k new r g' =
      in-cover-gone d f over (rule_line open_line) (ap (next_map lean_goal) (over-here d space true h k) ∙ cover-in (next Q c d (rule_line open_line))) new r g'

  pub over_fails : (d : Due) (space : Space) → tree_space Q d ≡ Some space → is_over Q a.goal (lower_of w) space ≡ false → (f : CertFault) → IsToldAs f OverFails → IsFaultOrMemory f (Inside d over)
  over_fails d space h k f t = told_fault (Inside d over) f OverFails (over-here d space false h k) t

  -- ---- a rule that leaves its own state

  leaf-inside : (d : Due) (l : Line) (o : Option Space) → leaves_open l ≡ true → tree_space Q d ≡ o →
      aim_next a (least_due (in_cover_due (lower_of w) w.bits d)) (rule_line l) ≡ as_least (leaf_line Q c (lower_of w) w.bits d l o)
  leaf-inside d l o h k =
      ap (λ (t : Bool). as_least (cond t (leaf_line Q c (lower_of w) w.bits d l (tree_space Q d)) (in_cover (lower_of w) w.bits (next Q c d (rule_line l))))) h
      ∙ ap (λ (o' : Option Space). as_least (leaf_line Q c (lower_of w) w.bits d l o')) k

  leaf-none : (d : Due) (l : Line) → leaves_open l ≡ true → tree_space Q d ≡ None → next_map lean_goal (Inside d (rule_line l)) ≡ In (next Q c d (rule_line l))
  leaf-none (nothing_due s lemmas (left_open left)) l h k = refl
  leaf-none d l h k = ap (next_map lean_goal) (leaf-inside d l None h k) ∙ cover-in (next Q c d (rule_line l))

  pub leaf_elsewhere : (l : Line) → leaves_open l ≡ true → (d : Due) → HasHeader d → tree_space Q d ≡ None → (new : Checked) (r : Result Phase CertFault) →
      IsGone Q c (next Q c d (rule_line l)) (phase.InCover w) new r → IsPhaseOutcome a (Inside d (rule_line l)) new r
  leaf_elsewhere l h d f k new r g' = in-cover-gone d f (rule_line l) (rule_line l) (leaf-none d l h k) new r g'

  leaf-refused : (t : Bool) (l : Line) → as-cover (ruled_line t (faulty (RuleFails (word_of l)))) ≡ faulty (cond t (RuleFails (word_of l)) BadNumber)
  leaf-refused true l = refl
  leaf-refused false l = refl

  leaf-here : (d : Due) (l : Line) (space : Space) → leaves_open l ≡ true → tree_space Q d ≡ Some space → Inside d (rule_line l) ≡ faulty (leaf_refusal Q l)
  leaf-here (nothing_due s lemmas (left_open left)) l space h k = cc
  leaf-here d l space h k = leaf-inside d l (Some space) h k ∙ leaf-refused (names_well Q l) l

  pub leaf_fails : (l : Line) → leaves_open l ≡ true → (d : Due) (space : Space) → tree_space Q d ≡ Some space → (f : CertFault) → IsToldAs f (leaf_refusal Q l) → IsFaultOrMemory f (Inside d (rule_line l))
  leaf_fails l h d space k f t = told_fault (Inside d (rule_line l)) f (leaf_refusal Q l) (leaf-here d l space h k) t

  -- ---- `point`

  point-none : (d : Due) → cover_value d ≡ None → next_map lean_goal (Inside d point_word) ≡ In (next Q c d point_word)
  point-none (nothing_due s lemmas (left_open left)) h = cc
  point-none d h = cover-in (next Q c d point_word)

  pub point_elsewhere : (d : Due) → HasHeader d → cover_value d ≡ None → (new : Checked) (r : Result Phase CertFault) → IsGone Q c (next Q c d point_word) (phase.InCover w) new r → IsPhaseOutcome a (Inside d point_word) new r
  point_elsewhere d f h new r k = in-cover-gone d f point_word point_word (point-none d h) new r k

coordinate-fits : (s : Loosenings) (axes : List Axis) (space : Space) → IsPointDue s (lean (coordinate_next s axes space))
coordinate-fits s [] space = refl
coordinate-fits s (a ∷ axes) space = refl

module _ (a : Aim) where
  point-behind : (e : Option Dyadic) (k : Option ℕ) (d : Due) (s : Loosenings) → cover_value d ≡ Some s →
      aim_next a (least_due (in_cover_at e k d)) point_word ≡ as_least (in_point e [] (next (problem_of a.problem) a.bound (kind_due s) point_word))
  point-behind e k (nothing_due s' lemmas (left_open left)) s h =
      let same : s' ≡ s = cc in ap (λ (x : Loosenings). as_least (in_point e [] (next (problem_of a.problem) a.bound (kind_due x) point_word))) same
  point-behind e k _ s h = cc

  pub point_on : (w : Scope) (s : code.Loosenings) (d : Due) → cover_value d ≡ Some (loosenings_of s) → (new : Checked) (r : Result Phase CertFault) →
      IsGone (problem_of a.problem) a.bound (next (problem_of a.problem) a.bound (kind_due (loosenings_of s)) point_word) (phase.InPoint s w.lower) new r →
      IsPhaseOutcome a (aim_next a (goal_due (phase.InCover w) d) point_word) new r
  point_on w s d h new r k =
      let p = problem_of a.problem in let x = next p a.bound (kind_due (loosenings_of s)) point_word in
      gone a p new x (aim_next a (goal_due (phase.InCover w) d) point_word) (phase.InPoint s w.lower) refl
      (ap (next_map lean_goal) (point-behind (lower_of w) w.bits d (loosenings_of s) h) ∙ point_leads (lower_of w) [] x)
      (λ d' k'. subst (IsPointDue (loosenings_of s)) (on-same k') (coordinate-fits (loosenings_of s) a.problem.axes [])) r k

  -- ---- a line of the point

  in-point-leads : (e : Option Dyadic) (d : Due) (l : CertLine) →
      next_map lean_goal (aim_next a (least_due (in_point_at e d)) l) ≡ next_map (λ (d' : Due). least_due (in_point_at e d')) (lean_next (next (problem_of a.problem) a.bound d l))
  in-point-leads e (nothing_due s lemmas (at_point space)) l = refl
  in-point-leads e d l = point_leads e [] (next (problem_of a.problem) a.bound d l)

  value-fits : (s s' : Loosenings) (x : Declared) (axes : List Axis) (space : Space) (l : CertLine) → s' ≡ s → (d : Due) → lean_next (coordinate_line s' x axes space l) ≡ on d → IsPointDue s d
  value-fits s s' (real_between lo hi) axes space (real_value v) h d e = subst (λ (k : Loosenings). IsPointDue k d) h (subst (IsPointDue s') (on-same e) (coordinate-fits s' axes _))
  value-fits s s' (real_between lo hi) axes space _ h d e = cc
  value-fits s s' any_bool axes space (bool_value says_both) h d e = cc
  value-fits s s' any_bool axes space (bool_value says_false) h d e = subst (λ (k : Loosenings). IsPointDue k d) h (subst (IsPointDue s') (on-same e) (coordinate-fits s' axes _))
  value-fits s s' any_bool axes space (bool_value says_true) h d e = subst (λ (k : Loosenings). IsPointDue k d) h (subst (IsPointDue s') (on-same e) (coordinate-fits s' axes _))
  value-fits s s' any_bool axes space _ h d e = cc

  end-fits : (t : Bool) (s s' : Loosenings) (lemmas : List State) (space : Space) → s' ≡ s → (d : Due) → lean_next (given t (nothing_due s' lemmas (at_point space)) NotShown) ≡ on d → IsPointDue s d
  end-fits true s s' lemmas space h d e = subst (IsPointDue s) (on-same e) h
  end-fits false s s' lemmas space h d e = cc

  point-fits : (s : Loosenings) (d : Due) (l : CertLine) → IsPointDue s d → (d' : Due) → lean_next (next (problem_of a.problem) a.bound d l) ≡ on d' → IsPointDue s d'
  point-fits s (coordinate_due s' x axes space) l h d' e = value-fits s s' x.declared axes space l h d' e
  point-fits s (end_due s' lemmas (at_point space)) end_word h d' e = end-fits (is_shown (problem_of a.problem) s' (at_point space)) s s' lemmas space h d' e
  point-fits s (end_due s' lemmas (at_point space)) _ h d' e = cc
  point-fits s (end_due s' lemmas (left_open left)) l h d' e = absurd h
  point-fits s (nothing_due s' lemmas v) l h d' e = cc
  point-fits s _ l h d' e = absurd h

  pub in_point_on : (l : CertLine) (s : code.Loosenings) (e : Option Dy) (d : Due) → IsPointDue (loosenings_of s) d → (new : Checked) (r : Result Phase CertFault) →
      IsGone (problem_of a.problem) a.bound (next (problem_of a.problem) a.bound d l) (phase.InPoint s e) new r → IsPhaseOutcome a (aim_next a (goal_due (phase.InPoint s e) d) l) new r
  in_point_on l s e d h new r k =
      let e' : Option Dyadic = option_map dyadic_of e in let p = problem_of a.problem in
      gone a p new (next p a.bound d l) (aim_next a (least_due (in_point_at e' d)) l) (phase.InPoint s e) refl (in-point-leads e' d l) (point-fits (loosenings_of s) d l h) r k
