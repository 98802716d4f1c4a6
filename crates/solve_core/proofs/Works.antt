-- What the work on a node comes to may be kept by the book.
use Rattle.std.proofs.Common.{◌≡◌, inl, inr, ℕ, List, [], Bool, true, false, not, ◌&&◌, Option, Some, None, IsTrue, refl, ap, sym, ◌∙◌, subst, true≢false}
use Rattle.std.specs.Prelude.{IsSome, slice_get}
use Rattle.std.proofs.lemmas.List.Elements.{All-nil}
use Rattle.poly_graph.specs.Problem.{Problem}
use Rattle.poly_graph.specs.ProblemViews.{Parts, problem_of}
use Rattle.interval_model.specs.Space.{Space, middle}
use Rattle.cover_model.specs.State.{State, Loosenings, may, sure}
use Rattle.cover_model.specs.Rules.{Line, narrow_by, end_by, mark_by, branch_by, stay_by}
use Rattle.cover_model.specs.Honest.{not_shown}
use Rattle.cover_data.specs.declared.kept.KeptPatch.{KeptPatch}
use Rattle.cover_data.specs.declared.step.End.{End}
use Rattle.cover_data.specs.declared.margins.Margins.{Margins}
use Rattle.cover_data.specs.declared.margins.Options.{Options}
use Rattle.cover_data.specs.Margins.{loosenings_of}
use Rattle.cover_data.specs.Models.{LemmaModel, KeptModel}
use Rattle.cover_data.specs.Views.{kept_of, end_of}
use Rattle.cover_data.specs.Runs.{AreKept, IsRun, is_closing, closes}
use Rattle.cover_book.specs.Model.{BookModel, problem_in, margins_of, loosenings_in, lemma_states_in}
use Rattle.cover_book.specs.Steps.{is_branch, ends_in_branch}
use Rattle.box_worker.specs.declared.worked.Worked.{Worked}
use Rattle.box_worker.specs.declared.worked.Worked.TheVariants.{Patch, Closed, Point}
use Rattle.box_worker.specs.Ended.{is_left}
use Rattle.box_worker.specs.Learned.{IsLesson, IsShownFromRoot}
use Rattle.box_worker.specs.Worked.{AnswersAtOnce, IsRunFrom, IsLearned, IsWork}
use Rattle.solve_core.specs.declared.search.Search.{Search}
use Rattle.solve_core.specs.Search.{IsSearch, IsAt, CanFind, CanCommit, CanLearn}
use Rattle.solve_core.specs.Reaches.{Reaches}
use Rattle.solve_core.proofs.Reached.{reaches_same}
use Rattle.solve_core.proofs.Waits.{kept_among, kept_still, carried, Same}

none-quoted : (states : List State) → AreKept states []
none-quoted states = All-nil (λ (l : LemmaModel). slice_get states l.id ≡ Some l.state)

-- what work on a state has come to
pub record HasWork (p : Problem) (m : Margins) (lemmas : List LemmaModel) (S : State) (w : Worked) : Type 0 where
  pub at_once : AnswersAtOnce p (loosenings_of m) lemmas S w
  pub work : IsWork p m lemmas S w

pub work_here : (b : BookModel) (p : Parts) (o : Options) (known lemmas : List LemmaModel) (S : State) (w : Worked) → p ≡ b.problem → o ≡ b.options → lemmas ≡ known →
    AnswersAtOnce (problem_of p) (loosenings_of (margins_of o)) lemmas S w → IsWork (problem_of p) (margins_of o) lemmas S w → HasWork (problem_in b) (margins_of b.options) known S w
work_here b p o known lemmas S w e f g a h =
    subst (λ (q : Parts). HasWork (problem_of q) (margins_of b.options) known S w) e (subst (λ (q : Options). HasWork (problem_of p) (margins_of q) known S w) f
    (subst (λ (ls : List LemmaModel). HasWork (problem_of p) (margins_of o) ls S w) g (record { at_once = a; work = h })))

-- ---- ends

pub left_some : (o : Option End) → IsTrue (is_left (end_of o)) → IsSome o
left_some None h = absurd (true≢false (sym h))
left_some (Some e) h = refl

pub closed_some : (o : Option End) → IsTrue (closes (end_of o)) → IsSome o
closed_some None h = absurd (true≢false (sym h))
closed_some (Some e) h = refl

closing-branch : (l : Line) → IsTrue (is_closing l) → IsTrue (is_branch l) → ⊥
closing-branch (end_by e) h k = true≢false (sym k)
closing-branch (narrow_by n) h k = true≢false (sym h)
closing-branch (mark_by m) h k = true≢false (sym h)
closing-branch (branch_by b) h k = true≢false (sym h)
closing-branch (stay_by t) h k = true≢false (sym h)

no-branch : (o : Option Line) → IsTrue (closes o) → IsTrue (ends_in_branch o) → ⊥
no-branch None h k = true≢false (sym h)
no-branch (Some l) h k = closing-branch l h k

-- ---- not shown

both : (a b : Bool) → (a ≡ false → ⊥) → (a ≡ true → b ≡ true → ⊥) → IsTrue (a && not b)
both true true h k = absurd (k refl refl)
both true false h k = refl
both false b h k = absurd (h refl)

pub not_at_once : (p : Problem) (s : Loosenings) (lemmas : List LemmaModel) (S : State) (P : KeptPatch) → AnswersAtOnce p s lemmas S (Patch P) → IsTrue (not_shown p s S)
not_at_once p s lemmas S P a = both (may p s S) (sure p s (middle S.space)) a.cannot_hold a.is_sure

module _ (s : Search) (n : ℕ) (S : State) (at : IsAt s n S) (w : Worked) (h : HasWork (problem_in s.book) (margins_of s.book.options) s.lemmas.items S w) where
  from-run : (P : KeptPatch) → IsRunFrom (problem_in s.book) (margins_of s.book.options) s.lemmas.items S (kept_of P) → IsSome P.end → (IsTrue (ends_in_branch (kept_of P).end) → IsTrue (not_shown (problem_in s.book) (loosenings_in s.book) S)) → CanCommit s n P
  from-run P r e d = record {
    at = subst (IsAt s n) (sym r.first) at;
    run = r.run;
    ended = e;
    quoted = kept_among (lemma_states_in s.book) s.lemmas.items (kept_of P).quoted at.search.kept r.among;
    due = λ k. subst (λ (T : State). IsTrue (not_shown (problem_in s.book) (loosenings_in s.book) T)) (sym r.first) (d k);
  }

  pub patch_can : (P : KeptPatch) → w ≡ Patch P → CanCommit s n P
  patch_can P e = let k = subst (HasWork (problem_in s.book) (margins_of s.book.options) s.lemmas.items S) e h in
      from-run P k.work.0 (left_some P.end k.work.1) (λ _. not_at_once (problem_in s.book) (loosenings_in s.book) s.lemmas.items S P k.at_once)

  pub closed_can : (P : KeptPatch) (c : Option KeptModel) → w ≡ Closed P c → CanCommit s n P
  closed_can P c e = let k = subst (HasWork (problem_in s.book) (margins_of s.book.options) s.lemmas.items S) e h in
      from-run P k.work.0 (closed_some P.end k.work.1) (λ b. absurd (no-branch (kept_of P).end k.work.1 b))

  pub point_can : (x : Space) → w ≡ Point x → CanFind s n x
  point_can x e = let k = subst (HasWork (problem_in s.book) (margins_of s.book.options) s.lemmas.items S) e h in record { state = S; at = at; shown = k.work.shown }

  -- what may be learned, once the patch is committed
  pub lesson_can : (P : KeptPatch) (c : Option KeptModel) (k : KeptModel) → w ≡ Closed P c → c ≡ Some k → (s' : Search) → IsSearch s' s'.waiting.items → Reaches s.book s'.book → s'.book.lemmas ≡ s.book.lemmas → CanLearn s' k
  lesson_can P c k e f s' g r l =
      let t = subst (HasWork (problem_in s.book) (margins_of s.book.options) s.lemmas.items S) (e ∙ ap (Closed P) f) h in
      let i : IsLearned (problem_in s.book) (margins_of s.book.options) s.lemmas.items S k = t.work.2.1 in
      let same : Same s.book s'.book = reaches_same r in record {
        search = g;
        run = carried (λ p o. IsRun (problem_of p) (margins_of o) k) s.book s'.book same i.run;
        closed = i.closed;
        quoted = kept_still s.book s'.book k.quoted same l (kept_among (lemma_states_in s.book) s.lemmas.items k.quoted at.search.kept i.among);
      }

  from-root : (k : KeptModel) → IsShownFromRoot s.book.problem (margins_of s.book.options) k → (s' : Search) → IsSearch s' s'.waiting.items → Reaches s.book s'.book → CanLearn s' k
  from-root k x s' g r =
      let same : Same s.book s'.book = reaches_same r in record {
        search = g;
        run = carried (λ p o. IsRun (problem_of p) (margins_of o) k) s.book s'.book same x.run;
        closed = x.closed;
        quoted = subst (AreKept (lemma_states_in s'.book)) (sym x.quoted) (none-quoted (lemma_states_in s'.book));
      }

  pub learned_can : (P : KeptPatch) (own : Option KeptModel) (k : KeptModel) → w ≡ Closed P own → IsLesson s.book.problem (margins_of s.book.options) own k → (s' : Search) → IsSearch s' s'.waiting.items → Reaches s.book s'.book → s'.book.lemmas ≡ s.book.lemmas → CanLearn s' k
  learned_can P own k e l s' g r m = elim l [
    | inl x ↦ from-root k x s' g r
    | inr f ↦ lesson_can P own k e f s' g r m
  ]
