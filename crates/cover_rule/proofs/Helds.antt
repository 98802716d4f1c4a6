-- What a patch keeps through a step or an end.
use Rattle.std.proofs.Common.{◌≡◌, ℕ, List, [], ◌∷◌, ◌++◌, map, Bool, true, false, not, ◌&&◌, cond, IsTrue, Option, Some, None, Result, Ok, Err, refl, sym, ap, ◌∙◌, subst, true≢false}
use Rattle.std.specs.Prelude.{is_none, slice_get, OnOk}
use Rattle.dyadic.specs.Rounding.{Dyadic}
use Rattle.dyadic.proofs.Equal.{both_true, both_pass}
use Rattle.interval_model.specs.Space.{space_within, domain_within, Domain, real_domain, bool_domain, Space, is_undecided, test_axis}
use Rattle.ival.specs.declared.domain.Domain.{Domain as CodeDomain}
use Rattle.ival.specs.declared.domain.Domain.TheVariants.{Real as code_real, Bool as code_bool}
use Rattle.ival.specs.declared.domain.Truths.TheVariants.{False as only_false, True as only_true, Either as either}
use Rattle.ival.specs.declared.space.Space.{Space as CodeSpace}
use Rattle.ival.specs.SpaceViews.{domain_of, space_of}
use Rattle.poly_graph.specs.Problem.{Declared, real_between, any_bool, Axis}
use Rattle.poly_graph.specs.ProblemViews.{Parts, IsWhole}
use Rattle.cover_model.specs.State.{State, IsLemma, undecided, with_yes, with_no, with_space, may, covers}
use Rattle.poly_graph.specs.Marks.{marked_yes, marked_no}
use Rattle.square_model.specs.Positive.{Multipliers}
use Rattle.cover_model.specs.Rules.{Block, Line, narrow_by, end_by, Narrowing, void_by, void_squares, unit, ban, make_false, by, cut, flip, case, either as parted, either_group, can_part, stuck, Left, closed, one, stays, when, pulled, voided, covers_by, is_stuck_atom, rule}
use Rattle.cover_model.specs.Honest.{is_honest, is_small, is_some_space}
use Rattle.cover_model.specs.Fits.{FitsAxis, FitsAxes}
use Rattle.cover_data.specs.declared.margins.Margins.{Margins}
use Rattle.cover_rule.specs.declared.refusal.PatchRefusal.{PatchRefusal}
use Rattle.cover_rule.specs.declared.refusal.PatchRefusal.TheVariants.{NotGroups, NotYes, NotForced, NotCovered, NotFalse, NotInside, NotStuck, NotHonest, Ended, IsVoid, Decided, NotNo, NotCombinable, TooLong, Memory}
use Rattle.cover_data.specs.Models.{LemmaModel}
use Rattle.cover_rule.specs.Models.{PatchModel}
use Rattle.cover_data.specs.Runs.{is_closing, CanBranch, IsEnding}
use Rattle.cover_rule.specs.Patch.{problem_in, loosenings_in, now_in, IsRunOf, can_narrow_in, narrowed_in, narrowed_space, space_or}
use Rattle.cover_rule.specs.Refusals.{IfLessStep, unless, then_by, if_ended, honestly, why_not, narrow_refusal, narrowed_by, unit_refusal, forced_by, ban_refusal, banned_by, void_refusal, VoidEnd, can_square_in, fits_line, is_positive_in, squaring_refusal, squares_refusal, SquaresEnd, false_refusal, by_refusal, ended_with, covered_by, flip_refusal, case_refusal, has_groups, one_holds_in, either_refusal, stuck_refusal, cut_line, cut_test, cut_refusal, ended_if, cut_by, PatchAnswer, EndAnswer, TestAnswer, AnswerIf, takes_memory}
use Rattle.cover_rule.proofs.RunSteps.{run_steps, run_ends, kept_before, lemmas_and, alone, kept_alone, sound_alone, no_lemmas}
use Rattle.cover_data.specs.declared.kept.KeptPatch.{KeptPatch}
use Rattle.cover_rule.specs.declared.workspace.Workspace.{Workspace}
use Rattle.cover_rule.specs.Serves.{IsReady}
use Rattle.cover_rule.specs.Held.{IsHeld, patch_of}
use Rattle.cover_rule.proofs.Cuts.{cut_is}
use Rattle.cover_data.proofs.Children.{marked_fits, can_end}

-- ---- spaces of the code

fits-items : (axes : List Axis) (ds : List CodeDomain) (S : Space) → IsTrue (space_within (map domain_of ds) S) → FitsAxes axes S → FitsAxes axes (map domain_of ds)
fits-items axes [] [] h k = k
fits-items axes [] (e ∷ S) h k = absurd (true≢false (sym h))
fits-items axes (code_real r ∷ ds) [] h k = absurd (true≢false (sym h))
fits-items axes (code_bool t ∷ ds) [] h k = absurd (true≢false (sym h))
fits-items [] (d ∷ ds) (e ∷ S) h k = elim k [ ]
fits-items (a ∷ axes) (d ∷ ds) (e ∷ S) h k =
    let x = both_true (domain_within (domain_of d) e) (space_within (map domain_of ds) S) h in (fits-one a.declared d e x.0 k.0, fits-items axes ds S x.1 k.1)
  where
    fits-one : (a : Declared) (d : CodeDomain) (e : Domain) → IsTrue (domain_within (domain_of d) e) → FitsAxis a e → FitsAxis a (domain_of d)
    fits-one (real_between lo hi) (code_real r) e h k = r.upright
    fits-one any_bool (code_real r) (real_domain l u) h k = elim k [ ]
    fits-one any_bool (code_real r) (bool_domain f u) h k = absurd (true≢false (sym h))
    fits-one any_bool (code_bool only_false) e h k = refl
    fits-one any_bool (code_bool only_true) e h k = refl
    fits-one any_bool (code_bool either) e h k = refl
    fits-one (real_between lo hi) (code_bool t) (bool_domain f u) h k = elim k [ ]
    fits-one (real_between lo hi) (code_bool only_false) (real_domain l u) h k = absurd (true≢false (sym h))
    fits-one (real_between lo hi) (code_bool only_true) (real_domain l u) h k = absurd (true≢false (sym h))
    fits-one (real_between lo hi) (code_bool either) (real_domain l u) h k = absurd (true≢false (sym h))

-- a space of the code that lies within one of the problem is one of the problem
pub code_fits : (axes : List Axis) (s : CodeSpace) (S : Space) → IsTrue (space_within (space_of s) S) → FitsAxes axes S → FitsAxes axes (space_of s)
code_fits axes s S h k = fits-items axes s.axes.items S h k

-- ---- refusals that do not come

pub neither : (o q : Option PatchRefusal) → then_by o q ≡ None → (o ≡ None) × (q ≡ None)
neither None q e = (refl, e)
neither (Some x) q e = cc

pub passed : (b : Bool) (x : PatchRefusal) → unless b x ≡ None → IsTrue b
passed true x e = refl
passed false x e = cc

none-of : {X : Type 0} (o : Option X) → IsTrue (is_none o) → o ≡ None
none-of None h = refl
none-of (Some x) h = absurd (true≢false (sym h))

pub not_ended : (P : PatchModel) → if_ended P.kept ≡ None → P.kept.end ≡ None
not_ended P e = none-of P.kept.end (passed (is_none P.kept.end) Ended e)

-- ---- answers

pub run_refused : (refusal : Option PatchRefusal) (P done Q : PatchModel) (x : PatchRefusal) → PatchAnswer refusal P done Q (Err x) → IsRunOf P → IsRunOf Q
run_refused refusal P done Q NotYes a h = subst IsRunOf (sym a.1) h
run_refused refusal P done Q NotForced a h = subst IsRunOf (sym a.1) h
run_refused refusal P done Q NotCovered a h = subst IsRunOf (sym a.1) h
run_refused refusal P done Q NotFalse a h = subst IsRunOf (sym a.1) h
run_refused refusal P done Q NotInside a h = subst IsRunOf (sym a.1) h
run_refused refusal P done Q NotStuck a h = subst IsRunOf (sym a.1) h
run_refused refusal P done Q NotHonest a h = subst IsRunOf (sym a.1) h
run_refused refusal P done Q Ended a h = subst IsRunOf (sym a.1) h
run_refused refusal P done Q IsVoid a h = subst IsRunOf (sym a.1) h
run_refused refusal P done Q Decided a h = subst IsRunOf (sym a.1) h
run_refused refusal P done Q NotNo a h = subst IsRunOf (sym a.1) h
run_refused refusal P done Q NotCombinable a h = subst IsRunOf (sym a.1) h
run_refused refusal P done Q NotGroups a h = subst IsRunOf (sym a.1) h
run_refused refusal P done Q TooLong a h = subst IsRunOf (sym a.1) h
run_refused refusal P done Q Memory a h = subst IsRunOf (sym a.1) h

pub run_after : (refusal : Option PatchRefusal) (P done Q : PatchModel) (r : Result (Unit {0}) PatchRefusal) → PatchAnswer refusal P done Q r → IsRunOf P → OnOk r (refusal ≡ None → IsRunOf done) → IsRunOf Q
run_after refusal P done Q (Ok u) a h k = subst IsRunOf (sym a.1) (k a.0)
run_after refusal P done Q (Err x) a h k = run_refused refusal P done Q x a h

-- the same of a call whose last test takes memory
pub run_tested : (first refusal : Option PatchRefusal) (P done Q : PatchModel) (r : Result (Unit {0}) PatchRefusal) → TestAnswer first refusal P done Q r → IsRunOf P → OnOk r (refusal ≡ None → IsRunOf done) → IsRunOf Q
run_tested first refusal P done Q (Ok u) a h k = subst IsRunOf (sym a.1) (k a.0)
run_tested first refusal P done Q (Err NotYes) a h k = subst IsRunOf (sym a.1) h
run_tested first refusal P done Q (Err NotForced) a h k = subst IsRunOf (sym a.1) h
run_tested first refusal P done Q (Err NotCovered) a h k = subst IsRunOf (sym a.1) h
run_tested first refusal P done Q (Err NotFalse) a h k = subst IsRunOf (sym a.1) h
run_tested first refusal P done Q (Err NotInside) a h k = subst IsRunOf (sym a.1) h
run_tested first refusal P done Q (Err NotStuck) a h k = subst IsRunOf (sym a.1) h
run_tested first refusal P done Q (Err NotHonest) a h k = subst IsRunOf (sym a.1) h
run_tested first refusal P done Q (Err Ended) a h k = subst IsRunOf (sym a.1) h
run_tested first refusal P done Q (Err IsVoid) a h k = subst IsRunOf (sym a.1) h
run_tested first refusal P done Q (Err Decided) a h k = subst IsRunOf (sym a.1) h
run_tested first refusal P done Q (Err NotNo) a h k = subst IsRunOf (sym a.1) h
run_tested first refusal P done Q (Err NotCombinable) a h k = subst IsRunOf (sym a.1) h
run_tested first refusal P done Q (Err NotGroups) a h k = subst IsRunOf (sym a.1) h
run_tested first refusal P done Q (Err TooLong) a h k = subst IsRunOf (sym a.1) h
run_tested first refusal P done Q (Err Memory) a h k = subst IsRunOf (sym a.1) h

-- the same of a call that takes no memory
pub run_ended : (refusal : Option PatchRefusal) (P done Q : PatchModel) (r : Result (Unit {0}) PatchRefusal) → EndAnswer refusal P done Q r → IsRunOf P → OnOk r (refusal ≡ None → IsRunOf done) → IsRunOf Q
run_ended refusal P done Q (Ok u) a h k = subst IsRunOf (sym a.1) (k a.0)
run_ended refusal P done Q (Err x) a h k = subst IsRunOf (sym a.1) h

run-if-memory : (b : Bool) (refusal : Option PatchRefusal) (P done Q : PatchModel) (r : Result (Unit {0}) PatchRefusal) → AnswerIf b refusal P done Q r → IsRunOf P → OnOk r (refusal ≡ None → IsRunOf done) → IsRunOf Q
run-if-memory true refusal P done Q r a h k = run_after refusal P done Q r a h k
run-if-memory false refusal P done Q r a h k = run_ended refusal P done Q r a h k

pub on_ok : (A B : Type 0) (r : Result (Unit {0}) PatchRefusal) → (A → B) → OnOk r A → OnOk r B
on_ok A B (Ok u) f h = f h
on_ok A B (Err x) f h = tt

pub any_ok : (A : Type 0) (r : Result (Unit {0}) PatchRefusal) → A → OnOk r A
any_ok A (Ok u) h = h
any_ok A (Err x) h = tt

-- the same of a step that is made where it leaves less, which fits
pub run_if_less : (narrow : Option Space) (refusal : Option PatchRefusal) (P done Q : PatchModel) (r : Result Bool PatchRefusal) → IfLessStep narrow refusal P done Q r → IsRunOf P →
    (FitsAxes (problem_in P).axes (space_or (now_in P).space narrow) → refusal ≡ None → IsRunOf done) →
    OnOk r (FitsAxes (problem_in P).axes (space_or (now_in P).space narrow)) → IsRunOf Q
run_if_less narrow refusal P done Q (Ok true) a h k fits = run_after refusal P done Q (Ok tt) a.1 h (k fits)
run_if_less narrow refusal P done Q (Ok false) a h k fits = run_after refusal P P Q (Ok tt) a.1 h (λ e. h)
run_if_less narrow refusal P done Q (Err x) a h k fits = run_refused refusal P done Q x a h

-- the same of more than what is answered
pub answers_lift : {X Y : Type 0} (f : X → Y) (refusal : Option PatchRefusal) (old done new : X) (r : Result (Unit {0}) PatchRefusal) → PatchAnswer refusal old done new r → PatchAnswer refusal (f old) (f done) (f new) r
answers_lift f refusal old done new (Ok u) a = (a.0, ap f a.1)
answers_lift f refusal old done new (Err NotYes) a = (a.0, ap f a.1)
answers_lift f refusal old done new (Err NotForced) a = (a.0, ap f a.1)
answers_lift f refusal old done new (Err NotCovered) a = (a.0, ap f a.1)
answers_lift f refusal old done new (Err NotFalse) a = (a.0, ap f a.1)
answers_lift f refusal old done new (Err NotInside) a = (a.0, ap f a.1)
answers_lift f refusal old done new (Err NotStuck) a = (a.0, ap f a.1)
answers_lift f refusal old done new (Err NotHonest) a = (a.0, ap f a.1)
answers_lift f refusal old done new (Err Ended) a = (a.0, ap f a.1)
answers_lift f refusal old done new (Err IsVoid) a = (a.0, ap f a.1)
answers_lift f refusal old done new (Err Decided) a = (a.0, ap f a.1)
answers_lift f refusal old done new (Err NotNo) a = (a.0, ap f a.1)
answers_lift f refusal old done new (Err NotCombinable) a = (a.0, ap f a.1)
answers_lift f refusal old done new (Err NotGroups) a = (a.0, ap f a.1)
answers_lift f refusal old done new (Err TooLong) a = (a.0, ap f a.1)
answers_lift f refusal old done new (Err Memory) a = (a.0, ap f a.1)

-- ---- steps

pulls : (b : Bool) (S : State) (o : Option Space) → IsTrue b → IsTrue (is_some_space o) → cond b (pulled S o) None ≡ Some (one (with_space S (space_or S.space o)))
pulls true S (Some n) h k = refl
pulls true S None h k = absurd (true≢false (sym k))
pulls false S o h k = absurd (true≢false (sym h))

when-true : (b : Bool) (l : Left) → IsTrue b → when b l ≡ Some l
when-true true l h = refl
when-true false l h = absurd (true≢false (sym h))

module _ (P : PatchModel) (whole : IsWhole P.problem) (r : IsRunOf P) where
  pub run_narrowed : (n : Narrowing) → FitsAxes (problem_in P).axes (narrowed_space P n) → narrow_refusal P n ≡ None → IsRunOf (narrowed_by P n)
  run_narrowed n fits e =
      let can = can_narrow_in P n in let some = is_some_space (narrowed_in P n) in
      let a = neither (if_ended P.kept) (then_by (unless can (why_not n)) (unless some IsVoid)) e in
      let b = neither (unless can (why_not n)) (unless some IsVoid) a.1 in
      let t = pulls can (now_in P) (narrowed_in P n) (passed can (why_not n) b.0) (passed some IsVoid b.1) in
      run_steps (problem_in P) whole.problem P.margins P.kept r (not_ended P a.0) (narrow_by n) P.kept.quoted (with_space (now_in P) (narrowed_space P n))
      (λ lemmas h. (h, t)) r.sound.quoted (record { axes = fits; marks = r.sound.reached.marks }) [] (no_lemmas (problem_in P) (loosenings_in P)) t

  pub run_forced : (j : ℕ) → unit_refusal P j ≡ None → IsRunOf (forced_by P j)
  run_forced j e =
      let u = undecided (now_in P) j in let v = not (may (problem_in P) (loosenings_in P) (with_no (now_in P) j)) in
      let a = neither (if_ended P.kept) (then_by (unless u Decided) (unless v NotForced)) e in
      let b = neither (unless u Decided) (unless v NotForced) a.1 in
      let t = when-true (u && v) (one (with_yes (now_in P) j)) (both_pass u v (passed u Decided b.0) (passed v NotForced b.1)) in
      run_steps (problem_in P) whole.problem P.margins P.kept r (not_ended P a.0) (unit j) P.kept.quoted (with_yes (now_in P) j)
      (λ lemmas h. (h, t)) r.sound.quoted (marked_fits (problem_in P) (now_in P) r.sound.reached j marked_yes) [] (no_lemmas (problem_in P) (loosenings_in P)) t

  pub run_banned : (j : ℕ) (L : LemmaModel) → IsLemma (problem_in P) (loosenings_in P) L.state → ban_refusal P.kept j L ≡ None → IsRunOf (banned_by P j L)
  run_banned j L g e =
      let u = undecided (now_in P) j in let v = covers L.state (with_yes (now_in P) j) in
      let a = neither (if_ended P.kept) (then_by (unless u Decided) (unless v NotCovered)) e in
      let b = neither (unless u Decided) (unless v NotCovered) a.1 in
      let covered : (o : Option State) → o ≡ Some L.state → when (u && covers_by o (with_yes (now_in P) j)) (one (with_no (now_in P) j)) ≡ Some (one (with_no (now_in P) j)) =
      λ o f. when-true (u && covers_by o (with_yes (now_in P) j)) (one (with_no (now_in P) j))
      (both_pass u (covers_by o (with_yes (now_in P) j)) (passed u Decided b.0) (subst (λ (x : Option State). IsTrue (covers_by x (with_yes (now_in P) j))) (sym f) (passed v NotCovered b.1))) in
      run_steps (problem_in P) whole.problem P.margins P.kept r (not_ended P a.0) (ban j L.id) (P.kept.quoted ++ (L ∷ [])) (with_no (now_in P) j)
      (λ lemmas h. let x = kept_before lemmas P.kept.quoted L h in (x.0, covered (slice_get lemmas L.id) x.1))
      (lemmas_and (problem_in P) (loosenings_in P) P.kept.quoted L r.sound.quoted g) (marked_fits (problem_in P) (now_in P) r.sound.reached j marked_no)
      (alone L) (sound_alone (problem_in P) (loosenings_in P) L g) (covered (slice_get (alone L) L.id) (kept_alone L))

  -- ---- ends that close

  is-end : (o : Option Left) (l : Left) → o ≡ Some l → IsEnding (Some l) → IsEnding o
  is-end o l e h = subst IsEnding (sym e) h

  voids : (b : Bool) (o : Option Space) → IsTrue b → IsTrue (not (is_some_space o)) → cond b (voided o) None ≡ Some closed
  voids true None h k = refl
  voids true (Some n) h k = absurd (true≢false (sym k))
  voids false o h k = absurd (true≢false (sym h))

  -- an end that closes and quotes nothing
  closes-plain : (l : Line) → P.kept.end ≡ None → ((lemmas : List State) → rule (problem_in P) (loosenings_in P) lemmas (now_in P) l ≡ Some closed) → IsTrue (is_honest (problem_in P) P.margins.least_bits (loosenings_in P) (now_in P) l) → CanBranch (problem_in P) (loosenings_in P) l (now_in P) → IsRunOf (ended_with P l)
  closes-plain l o t h c = run_ends (problem_in P) whole.problem P.margins P.kept r o l P.kept.quoted
      (λ lemmas q. (q, is-end (rule (problem_in P) (loosenings_in P) lemmas (now_in P) l) closed (t lemmas) tt)) h r.sound.quoted
      (λ x. ([], no_lemmas (problem_in P) (loosenings_in P), t [])) c

  void-closes : (n : Narrowing) → void_refusal P n ≡ None → IsRunOf (ended_with P (end_by (void_by n)))
  void-closes n e =
      let can = can_narrow_in P n in let none = not (is_some_space (narrowed_in P n)) in
      let a = neither (if_ended P.kept) (then_by (unless can (why_not n)) (unless none NotFalse)) e in
      let b = neither (unless can (why_not n)) (unless none NotFalse) a.1 in
      closes-plain (end_by (void_by n)) (not_ended P a.0) (λ lemmas. voids can (narrowed_in P n) (passed can (why_not n) b.0) (passed none NotFalse b.1)) refl tt

  pub run_voided : (n : Narrowing) (Q : PatchModel) (x : Result (Unit {0}) PatchRefusal) → VoidEnd P n Q x → IsRunOf Q
  run_voided n Q x h = run-if-memory (takes_memory n) (void_refusal P n) P (ended_with P (end_by (void_by n))) Q x h r (any_ok (void_refusal P n ≡ None → IsRunOf (ended_with P (end_by (void_by n)))) x (void-closes n))

  squares-close : (ms : Multipliers) (bs : List Block) → squares_refusal P ms bs ≡ None → IsRunOf (ended_with P (void_squares ms bs))
  squares-close ms bs e =
      let can = can_square_in P ms in let positive = is_positive_in P ms bs in
      let a = neither (squaring_refusal P ms bs) (unless positive NotFalse) e in
      let b = neither (if_ended P.kept) (then_by (unless can NotCombinable) (unless (fits_line ms bs) TooLong)) a.0 in
      let d = neither (unless can NotCombinable) (unless (fits_line ms bs) TooLong) b.1 in
      closes-plain (void_squares ms bs) (not_ended P b.0)
      (λ lemmas. when-true (can && positive) closed (both_pass can positive (passed can NotCombinable d.0) (passed positive NotFalse a.1))) refl tt

  pub run_squared : (ms : Multipliers) (bs : List Block) (Q : PatchModel) (x : Result (Unit {0}) PatchRefusal) → SquaresEnd P ms bs Q x → IsRunOf Q
  run_squared ms bs Q x h = run_tested (squaring_refusal P ms bs) (squares_refusal P ms bs) P (ended_with P (void_squares ms bs)) Q x h r
      (any_ok (squares_refusal P ms bs ≡ None → IsRunOf (ended_with P (void_squares ms bs))) x (squares-close ms bs))

  pub run_made_false : false_refusal P ≡ None → IsRunOf (ended_with P make_false)
  run_made_false e =
      let v = not (may (problem_in P) (loosenings_in P) (now_in P)) in
      let a = neither (if_ended P.kept) (unless v NotFalse) e in
      closes-plain make_false (not_ended P a.0) (λ lemmas. when-true v closed (passed v NotFalse a.1)) refl tt

  pub run_covered : (L : LemmaModel) → IsLemma (problem_in P) (loosenings_in P) L.state → by_refusal P.kept L ≡ None → IsRunOf (covered_by P L)
  run_covered L g e =
      let v = covers L.state (now_in P) in
      let a = neither (if_ended P.kept) (unless v NotCovered) e in
      let covered : (o : Option State) → o ≡ Some L.state → when (covers_by o (now_in P)) closed ≡ Some closed =
      λ o f. when-true (covers_by o (now_in P)) closed (subst (λ (x : Option State). IsTrue (covers_by x (now_in P))) (sym f) (passed v NotCovered a.1)) in
      run_ends (problem_in P) whole.problem P.margins P.kept r (not_ended P a.0) (by L.id) (P.kept.quoted ++ (L ∷ []))
      (λ lemmas h. let x = kept_before lemmas P.kept.quoted L h in (x.0, is-end (when (covers_by (slice_get lemmas L.id) (now_in P)) closed) closed (covered (slice_get lemmas L.id) x.1) tt))
      refl (lemmas_and (problem_in P) (loosenings_in P) P.kept.quoted L r.sound.quoted g)
      (λ x. (alone L, sound_alone (problem_in P) (loosenings_in P) L g, covered (slice_get (alone L) L.id) (kept_alone L))) tt

  -- ---- other ends

  -- an end that does not close, and quotes nothing
  ends-plain : (l : Line) → P.kept.end ≡ None → ((lemmas : List State) → IsEnding (rule (problem_in P) (loosenings_in P) lemmas (now_in P) l)) → IsTrue (is_honest (problem_in P) P.margins.least_bits (loosenings_in P) (now_in P) l) → is_closing l ≡ false → CanBranch (problem_in P) (loosenings_in P) l (now_in P) → IsRunOf (ended_with P l)
  ends-plain l o t h f c = run_ends (problem_in P) whole.problem P.margins P.kept r o l P.kept.quoted (λ lemmas q. (q, t lemmas)) h r.sound.quoted (λ x. absurd (true≢false (sym x ∙ f))) c

  pub run_cut : (axis : ℕ) (c : Dyadic) → P.kept.end ≡ None → CanBranch (problem_in P) (loosenings_in P) (cut axis c) (now_in P) → honestly P (cut axis c) ≡ None → IsRunOf (ended_with P (cut axis c))
  run_cut axis c o can h = ends-plain (cut axis c) o (λ lemmas. can_end (problem_in P) (loosenings_in P) lemmas (now_in P) (cut axis c) can _ refl)
      (passed (is_honest (problem_in P) P.margins.least_bits (loosenings_in P) (now_in P) (cut axis c)) NotHonest h) refl can

  pub run_flipped : (i : ℕ) → flip_refusal P i ≡ None → IsRunOf (ended_with P (flip i))
  run_flipped i e =
      let a = neither (if_ended P.kept) _ e in let b = neither _ _ a.1 in let d = neither (unless (test_axis is_undecided i (now_in P).space) NotInside) (honestly P (flip i)) b.1 in
      let can = both_pass (test_axis is_undecided i (now_in P).space) true (passed (test_axis is_undecided i (now_in P).space) NotInside d.0) refl in
      ends-plain (flip i) (not_ended P a.0) (λ lemmas. can_end (problem_in P) (loosenings_in P) lemmas (now_in P) (flip i) can _ refl)
      (passed (is_honest (problem_in P) P.margins.least_bits (loosenings_in P) (now_in P) (flip i)) NotHonest d.1) refl can

  pub run_cased : (j : ℕ) → case_refusal P j ≡ None → IsRunOf (ended_with P (case j))
  run_cased j e =
      let a = neither (if_ended P.kept) _ e in let b = neither (unless (undecided (now_in P) j) Decided) (honestly P (case j)) a.1 in
      let can = both_pass (undecided (now_in P) j) true (passed (undecided (now_in P) j) Decided b.0) refl in
      ends-plain (case j) (not_ended P a.0) (λ lemmas. can_end (problem_in P) (loosenings_in P) lemmas (now_in P) (case j) can _ refl)
      (passed (is_honest (problem_in P) P.margins.least_bits (loosenings_in P) (now_in P) (case j)) NotHonest b.1) refl can

  pub run_parted : (js ks : List ℕ) → either_refusal P js ks ≡ None → IsRunOf (ended_with P (parted js ks))
  run_parted js ks e =
      let g = has_groups (loosenings_in P) js ks in let u = can_part (now_in P) (either_group js ks) in let v = one_holds_in P js ks in
      let a = neither (if_ended P.kept) _ e in let b = neither (unless g NotGroups) _ a.1 in let d = neither (unless u Decided) _ b.1 in
      let f = neither (unless v NotForced) (honestly P (parted js ks)) d.1 in
      let can = both_pass u (g && v) (passed u Decided d.0) (both_pass g v (passed g NotGroups b.0) (passed v NotForced f.0)) in
      ends-plain (parted js ks) (not_ended P a.0) (λ lemmas. can_end (problem_in P) (loosenings_in P) lemmas (now_in P) (parted js ks) can _ refl)
      (passed (is_honest (problem_in P) P.margins.least_bits (loosenings_in P) (now_in P) (parted js ks)) NotHonest f.1) refl can

  pub run_stuck : (j : ℕ) → stuck_refusal P j ≡ None → IsRunOf (ended_with P (stuck j))
  run_stuck j e =
      let u = is_stuck_atom (problem_in P) (loosenings_in P) (now_in P) j in let v = is_small P.margins.least_bits (now_in P).space in
      let a = neither (if_ended P.kept) _ e in let b = neither (unless (u && v) NotStuck) (honestly P (stuck j)) a.1 in
      ends-plain (stuck j) (not_ended P a.0) (λ lemmas. is-end (when u stays) stays (when-true u stays (both_true u v (passed (u && v) NotStuck b.0)).0) tt)
      (passed (is_honest (problem_in P) P.margins.least_bits (loosenings_in P) (now_in P) (stuck j)) NotHonest b.1) refl tt

  cut-by : (axis : ℕ) (o : Option Line) → cut_line axis (now_in P).space ≡ o → then_by (if_ended P.kept) (cut_test P o) ≡ None → IsRunOf (ended_if P o)
  cut-by axis None e f = let a = neither (if_ended P.kept) (Some NotInside) f in let b = a.1 in cc
  cut-by axis (Some l) e f =
      let a = neither (if_ended P.kept) (honestly P l) f in let c = cut_is axis (now_in P).space l e in
      subst (λ (x : Line). IsRunOf (ended_with P x)) (sym c.is) (run_cut axis c.at (not_ended P a.0) (both_pass _ true c.can refl) (subst (λ (x : Line). honestly P x ≡ None) c.is a.1))

  pub run_cut_by : (axis : ℕ) → cut_refusal P axis ≡ None → IsRunOf (cut_by P axis)
  run_cut_by axis e = cut-by axis (cut_line axis (now_in P).space) refl e

-- ---- what is held

pub still_ready : (p : Parts) (m : Margins) (k k' : KeptPatch) (w : Workspace) → k'.reached.space ≡ k.reached.space → IsReady p m k.reached.space w → IsReady p m k'.reached.space w
still_ready p m k k' w e h = subst (λ (s : Space). IsReady p m s w) (sym e) h

pub held_with : (p : Parts) (m : Margins) (k k' : KeptPatch) (w w' : Workspace) → IsHeld p m k w → IsRunOf (patch_of p m k') → IsReady p m k'.reached.space w' → IsHeld p m k' w'
held_with p m k k' w w' h r y = record { whole = h.whole; numbered = h.numbered; margins = h.margins; run = r; ready = y }
