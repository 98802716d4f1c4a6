-- What work comes to.
use Rattle.std.proofs.Common.{◌≡◌, ◌⊎◌, inl, inr, zero, suc, List, [], ◌∷◌, Bool, true, false, cond, not, ◌&&◌, IsTrue, Option, Some, None, refl, ap, sym, ◌∙◌, subst, arith, true≢false}
use Rattle.std.specs.Prelude.{Contains, Result, Ok, Err, IfOk}
use Rattle.std.specs.declared.alloc.AllocError.{AllocError}
use Rattle.dyadic.proofs.Equal.{both_true}
use Rattle.poly_graph.specs.ProblemViews.{Parts, problem_of}
use Rattle.interval_model.specs.Space.{Space, middle, space_within}
use Rattle.cover_model.specs.State.{State, covers, may, sure}
use Rattle.cover_model.specs.Honest.{not_shown}
use Rattle.cover_model.specs.Rules.{Line, make_false, narrow_by, end_by, mark_by, branch_by, stay_by}
use Rattle.cover_model.specs.Fits.{IsShownAt}
use Rattle.poly_graph.proofs.Bools.{not_both}
use Rattle.cover_data.specs.declared.margins.Margins.{Margins}
use Rattle.cover_data.specs.Margins.{loosenings_of}
use Rattle.cover_data.specs.Models.{LemmaModel, KeptModel}
use Rattle.cover_rule.specs.Models.{PatchModel}
use Rattle.cover_rule.specs.Patch.{problem_in, run_at, ended_by}
use Rattle.cover_rule.specs.Refusals.{ended_with, covered, covered_by}
use Rattle.cover_data.specs.Runs.{IsRun, IsClosed, closes, is_closing}
use Rattle.cover_data.specs.Views.{kept_of}
use Rattle.cover_data.proofs.Runs.{covers_itself}
use Rattle.box_worker.specs.declared.ended.Ended.{Ended}
use Rattle.box_worker.specs.declared.ended.Ended.TheVariants as ended
use Rattle.box_worker.specs.declared.worked.Worked.{Worked}
use Rattle.box_worker.specs.declared.worked.Worked.TheVariants.{Patch, Closed, Point}
use Rattle.box_worker.specs.Attempts.{AreAmong}
use Rattle.box_worker.specs.Ended.{first_covering, leaves_some, is_left, AtOnce, ComesToEnd}
use Rattle.box_worker.specs.Worked.{IsRunFrom, IsLearned, IsMiddleFrom, IsWork, IsClosedBy, IsPointAt, IsLeftOpen, AnswersAtOnce, IsEndPoint, WorkOf, teaches_nothing}
use Rattle.box_worker.proofs.Open.{none_among}

-- ---- the first lemma that covers

here : (L : LemmaModel) (lemmas : List LemmaModel) → Contains (L ∷ lemmas) L
here L lemmas = (0, omega arith, refl)

there : (M L : LemmaModel) (lemmas : List LemmaModel) → Contains lemmas L → Contains (M ∷ lemmas) L
there M L lemmas h = (suc h.0, (let k = h.1 in omega arith), h.2)

pub covering_is : (lemmas : List LemmaModel) (S : State) (L : LemmaModel) → first_covering lemmas S ≡ Some L → Contains lemmas L × IsTrue (covers L.state S)
covering_is [] S L e = cc
covering_is (M ∷ lemmas) S L e = by-test (covers M.state S) refl e (λ h. covering_is lemmas S L h)
  where
    same : (A B : LemmaModel) → Some A ≡ Some B → A ≡ B
    same A B q = cc

    by-test : (t : Bool) → covers M.state S ≡ t → cond t (Some M) (first_covering lemmas S) ≡ Some L → (first_covering lemmas S ≡ Some L → Contains lemmas L × IsTrue (covers L.state S)) → Contains (M ∷ lemmas) L × IsTrue (covers L.state S)
    by-test true q h f = subst (λ (X : LemmaModel). Contains (M ∷ lemmas) X × IsTrue (covers X.state S)) (same M L h) (here M lemmas, q)
    by-test false q h f = let r = f h in (there M L lemmas r.0, r.1)

one-among : (lemmas : List LemmaModel) (L : LemmaModel) → Contains lemmas L → AreAmong lemmas (L ∷ [])
one-among lemmas L h zero d l = h
one-among lemmas L h (suc k) d l = absurd (omega arith)

-- ---- a patch's work is of its state

run-from : (lemmas : List LemmaModel) (Q : PatchModel) (k : KeptModel) → k ≡ Q.kept → AreAmong lemmas Q.kept.quoted → IsRun (problem_in Q) Q.margins Q.kept → IsRunFrom (problem_in Q) Q.margins lemmas Q.kept.first k
run-from lemmas Q k e among run = subst (IsRunFrom (problem_in Q) Q.margins lemmas Q.kept.first) (sym e) (record { first = refl; run = run; among = among })

work-of : (lemmas : List LemmaModel) (Q : PatchModel) (e : Ended) (w : Worked) → AreAmong lemmas Q.kept.quoted → WorkOf Q e w → IsWork (problem_in Q) Q.margins lemmas Q.kept.first w
work-of lemmas Q e (Patch k) among h = (run-from lemmas Q (kept_of k) h.0 among h.1, subst (λ (x : KeptModel). IsTrue (is_left x.end)) (sym h.0) h.2)
work-of lemmas Q e (Closed k None) among h =
    (run-from lemmas Q (kept_of k) h.0.0 among h.1, subst IsClosed (sym h.0.0) h.2, subst (λ (x : KeptModel). teaches_nothing x ≡ true) (sym h.0.0) h.0.1)
work-of lemmas Q e (Closed k (Some c)) among h = (
  run-from lemmas Q (kept_of k) h.0.0 among h.1,
  subst IsClosed (sym h.0.0) h.2,
  (
    subst (λ (x : KeptModel). teaches_nothing x ≡ false) (sym h.0.0) h.0.1,
    subst (IsLearned (problem_in Q) Q.margins lemmas Q.kept.first) (sym h.0.2) (record { run = h.1; among = among; closed = h.2; wide = covers_itself Q.kept.first }),
  ),
)
work-of lemmas Q e (Point x) among h = record { place = place e h.2; shown = h.3 }
  where
    place : (e : Ended) → IsEndPoint Q e x → IsMiddleFrom (problem_in Q) Q.margins lemmas Q.kept.first x ⊎ IsTrue (space_within x Q.kept.first.space)
    place (ended.Shown y) k = inl (record { steps = Q.kept; run = record { first = refl; run = h.1; among = among }; open_end = h.0; middle_is = k })
    place (ended.Found y) k = inr k
    place ended.Closed k = absurd k
    place ended.Parted k = absurd k

pub work_is : (q : Parts) (m : Margins) (lemmas : List LemmaModel) (S : State) (Q : PatchModel) (e : Ended) (w : Worked) → Q.problem ≡ q → Q.margins ≡ m → Q.kept.first ≡ S → AreAmong lemmas Q.kept.quoted → WorkOf Q e w → IsWork (problem_of q) m lemmas S w
work_is q m lemmas S Q z w e f g among h =
    subst (λ (T : State). IsWork (problem_of q) m lemmas T w) g
    (subst (λ (x : Margins). IsWork (problem_of q) x lemmas Q.kept.first w) f
    (subst (λ (r : Parts). IsWork (problem_of r) Q.margins lemmas Q.kept.first w) e (work-of lemmas Q z w among h)))

-- ---- answers at once

not-both-ends : (l : Line) → IsTrue (is_closing l) → IsTrue (leaves_some l) → ⊥
not-both-ends (end_by e) h k = true≢false (sym k)
not-both-ends (narrow_by n) h k = true≢false (sym h)
not-both-ends (mark_by m) h k = true≢false (sym h)
not-both-ends (branch_by b) h k = true≢false (sym h)
not-both-ends (stay_by t) h k = true≢false (sym h)

not-left : (o : Option Line) → IsTrue (closes o) → IsTrue (is_left o) → ⊥
not-left None h k = true≢false (sym h)
not-left (Some l) h k = not-both-ends l h k

abbrev pub begun : Parts → Margins → State → PatchModel
begun q m S = record { problem = q; margins = m; kept = run_at S }

pub is_begun : (P : PatchModel) (q : Parts) (m : Margins) (S : State) → P.problem ≡ q → P.margins ≡ m → P.kept ≡ run_at S → P ≡ begun q m S
is_begun P q m S e f g =
    subst (λ (k : KeptModel). P ≡ record { problem = q; margins = m; kept = k }) g
    (subst (λ (x : Margins). P ≡ record { problem = q; margins = x; kept = P.kept }) f
    (subst (λ (r : Parts). P ≡ record { problem = r; margins = P.margins; kept = P.kept }) e refl))

-- a patch that has ended at once is of the same problem
pub at_once_problem : (lemmas : List LemmaModel) (P Q : PatchModel) (e : Ended) → AtOnce lemmas P Q (Some e) → Q.problem ≡ P.problem
at_once_problem lemmas P Q ended.Closed (inl a) = ap (λ (X : PatchModel). X.problem) a.1
at_once_problem lemmas P Q ended.Closed (inr a) = ap (λ (X : PatchModel). X.problem) a.3
at_once_problem lemmas P Q ended.Parted a = absurd a
at_once_problem lemmas P Q (ended.Found x) a = absurd a
at_once_problem lemmas P Q (ended.Shown x) a = ap (λ (X : PatchModel). X.problem) a.0

module _ (q : Parts) (m : Margins) (lemmas : List LemmaModel) (S : State) where
  abbrev can : Bool
  can = may (problem_of q) (loosenings_of m) S

  abbrev surely : Bool
  surely = sure (problem_of q) (loosenings_of m) (middle S.space)

  shown-may : not_shown (problem_of q) (loosenings_of m) S ≡ true → can ≡ false → ⊥
  shown-may h e = true≢false (sym (both_true can (not surely) h).0 ∙ e)

  shown-sure : not_shown (problem_of q) (loosenings_of m) S ≡ true → surely ≡ true → ⊥
  shown-sure h e = not_both surely e (both_true can (not surely) h).1

  some-same : (L M : LemmaModel) → first_covering lemmas S ≡ Some L → first_covering lemmas S ≡ Some M → L ≡ M
  some-same L M e f = let k : Some L ≡ Some M = sym e ∙ f in cc

  abbrev Answers : Worked → Type 0
  Answers w = AnswersAtOnce (problem_of q) (loosenings_of m) lemmas S w

  left-open : (w : Worked) → (can ≡ false → IsClosedBy (ended_by (run_at S) make_false []) w) → (can ≡ true → surely ≡ true → IsPointAt (middle S.space) w) → IsLeftOpen (problem_of q) (loosenings_of m) S w
  left-open (Closed k c) f g = tt
  left-open (Point x) f g = tt
  left-open (Patch k) f g = by-both can surely f g
    where
      by-both : (x y : Bool) → (x ≡ false → ⊥) → (x ≡ true → y ≡ true → ⊥) → (x && not y) ≡ true
      by-both true true f g = absurd (g refl refl)
      by-both true false f g = refl
      by-both false y f g = absurd (f refl)

  answers : (w : Worked) → (can ≡ false → IsClosedBy (ended_by (run_at S) make_false []) w) → (can ≡ true → surely ≡ true → IsPointAt (middle S.space) w) →
      (not_shown (problem_of q) (loosenings_of m) S ≡ true → (L : LemmaModel) → first_covering lemmas S ≡ Some L → IsClosedBy (covered (run_at S) L) w) → Answers w
  answers w f g h = record { cannot_hold = f; is_sure = g; is_open = left-open w f g; is_covered = h }

  pub none_at_once : (w : Worked) → not_shown (problem_of q) (loosenings_of m) S ≡ true → first_covering lemmas S ≡ None → Answers w
  none_at_once w h n = answers w (λ e. absurd (shown-may h e)) (λ a e. absurd (shown-sure h e))
      (λ a L e. absurd (no-lemma L (sym n ∙ e)))
    where
      no-lemma : (L : LemmaModel) → (let o : Option LemmaModel = None in o) ≡ Some L → ⊥
      no-lemma L e = cc

  -- a patch that has ended by such a line is told as closed
  told : (Q : PatchModel) (e : Ended) (w : Worked) → IsClosed Q.kept → teaches_nothing Q.kept ≡ true → WorkOf Q e w → IsClosedBy Q.kept w
  told Q e (Patch k) c t h = not-left Q.kept.end c h.2
  told Q e (Closed k None) c t h = (h.0.0, refl)
  told Q e (Closed k (Some x)) c t h = absurd (true≢false (sym t ∙ h.0.1))
  told Q e (Point x) c t h = let k = subst (λ (o : Option Line). IsTrue (closes o)) h.0 c in true≢false (sym k)

  at_once_false : (w : Worked) → can ≡ false → WorkOf (ended_with (begun q m S) make_false) ended.Closed w → Answers w
  at_once_false w e h = answers w (λ a. told (ended_with (begun q m S) make_false) ended.Closed w refl refl h) (λ a b. absurd (true≢false (sym a ∙ e)))
      (λ a L b. absurd (shown-may a e))

  at_once_covered : (w : Worked) (L : LemmaModel) → not_shown (problem_of q) (loosenings_of m) S ≡ true → first_covering lemmas S ≡ Some L → WorkOf (covered_by (begun q m S) L) ended.Closed w → Answers w
  at_once_covered w L n e h = answers w (λ a. absurd (shown-may n a)) (λ a b. absurd (shown-sure n b))
      (λ a M b. subst (λ (X : LemmaModel). IsClosedBy (covered (run_at S) X) w) (some-same L M e b) (told (covered_by (begun q m S) L) ended.Closed w refl refl h))

  at_once_shown : (w : Worked) (x : Space) → can ≡ true → x ≡ middle S.space → IsShownAt (problem_of q) (loosenings_of m) x → WorkOf (begun q m S) (ended.Shown x) w → Answers w
  at_once_shown w x c e shown h = answers w (λ a. absurd (true≢false (sym c ∙ a))) (λ a b. point w h)
      (λ a L b. absurd (shown-sure a (subst (λ (y : Space). IsTrue (sure (problem_of q) (loosenings_of m) y)) e shown.surely)))
    where
      point : (w : Worked) → WorkOf (begun q m S) (ended.Shown x) w → IsPointAt (middle S.space) w
      point (Patch k) h = true≢false (sym h.2)
      point (Closed k c) h = true≢false (sym h.2)
      point (Point y) h = h.2

  pub at_once_is : (Q : PatchModel) (e : Ended) (w : Worked) → AtOnce lemmas (begun q m S) Q (Some e) → WorkOf Q e w → Answers w × IsWork (problem_of q) m lemmas S w
  at_once_is Q ended.Closed w (inl a) h = let k = subst (λ (X : PatchModel). WorkOf X ended.Closed w) a.1 h in (at_once_false w a.0 k, work-of lemmas (ended_with (begun q m S) make_false) ended.Closed w (none_among lemmas) k)
  at_once_is Q ended.Closed w (inr a) h = let k = subst (λ (X : PatchModel). WorkOf X ended.Closed w) a.3 h in
      (at_once_covered w a.0 a.1 a.2 k, work-of lemmas (covered_by (begun q m S) a.0) ended.Closed w (one-among lemmas a.0 (covering_is lemmas S a.0 a.2).0) k)
  at_once_is Q ended.Parted w a h = absurd a
  at_once_is Q (ended.Found x) w a h = absurd a
  at_once_is Q (ended.Shown x) w a h = let k = subst (λ (X : PatchModel). WorkOf X (ended.Shown x) w) a.0 h in (at_once_shown w x a.1 a.2 a.3 k, work-of lemmas (begun q m S) (ended.Shown x) w (none_among lemmas) k)

  pub comes_at_once : (Z : PatchModel) (e : Ended) (w : Worked) → ComesToEnd q m lemmas (begun q m S) Z e → WorkOf Z e w → Answers w
  comes_at_once Z e w (inl a) h = (at_once_is Z e w a h).0
  comes_at_once Z e w (inr r) h = none_at_once w r.2.1 r.2.2

  pub comes_to_work : (Z : PatchModel) (e : Ended) (w : Worked) → ComesToEnd q m lemmas (begun q m S) Z e → WorkOf Z e w → IsWork (problem_of q) m lemmas S w
  comes_to_work Z e w (inl a) h = (at_once_is Z e w a h).1
  comes_to_work Z e w (inr r) h =
      let Q = r.0 in let o = r.3 in let k = r.4 in
      let first : Q.kept.first ≡ S = ap (λ (X : PatchModel). X.kept.first) r.2.0 in
      work_is q m lemmas S Z e w (k.problem ∙ o.problem) (k.margins ∙ o.margins) (k.first ∙ o.first ∙ first) (subst (AreAmong lemmas) (sym k.quoted) o.among) h

pub if_ok_then : (A B : Worked → Type 0) (r : Result Worked AllocError) → ((w : Worked) → A w → B w) → IfOk r A → IfOk r B
if_ok_then A B (Ok w) f h = f w h
if_ok_then A B (Err e) f h = tt
