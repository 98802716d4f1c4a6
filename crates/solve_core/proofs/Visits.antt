-- A search after a call on its book.
use Rattle.std.proofs.Common.{◌≡◌, ◌⊎◌, inl, inr, ℕ, zero, suc, ◌+◌, List, [], ◌∷◌, ◌++◌, All, drop, length, Option, Some, None, Result, Ok, Err, IsTrue, refl, ap, sym, ◌∙◌, subst, true≢false, arith}
use Rattle.std.specs.Prelude.{slice_get, IsSome, OnOk}
use Rattle.std.proofs.lemmas.List.Elements.{All-weaker, All-drop, All-head, All-tail, All-append, All-cons, All-nil}
use Rattle.interval_model.specs.Space.{Space}
use Rattle.cover_model.specs.State.{State, IsLemma}
use Rattle.cover_model.specs.Fits.{FitsProblem}
use Rattle.cover_model.specs.Rules.{Line}
use Rattle.cover_data.specs.declared.kept.KeptPatch.{KeptPatch}
use Rattle.cover_data.specs.declared.step.End.{End}
use Rattle.cover_data.specs.Models.{LemmaModel, KeptModel}
use Rattle.cover_data.specs.Views.{kept_of, end_of, end_line}
use Rattle.cover_data.specs.Runs.{AreKept, IsRun, IsClosed, closes}
use Rattle.cover_data.proofs.Proved.{closed_is_lemma}
use Rattle.cover_book.specs.declared.calls.Call.TheVariants.{Commit, Learn, Find}
use Rattle.cover_book.specs.declared.calls.Reply.TheVariants.{Committed, Learned, Found}
use Rattle.cover_book.specs.declared.refusal.BookRefusal.{BookRefusal}
use Rattle.cover_book.specs.declared.refusal.BookRefusal.TheVariants.{NotOpen, OtherState, UnknownLemma, BudgetSpent, LemmasFull, PointKept, Memory}
use Rattle.cover_book.specs.declared.refusal.Kids.{Kids}
use Rattle.cover_book.specs.Model.{LearnedLemma, BookModel, problem_in, margins_of, loosenings_in, lemma_states_in, lemma_count}
use Rattle.cover_book.specs.Steps.{MayBeCalled, IsLive, IsFirstUnknown, IsCommitRefusal, CommitStep, LemmaStep, PointStep, with_lemma, learned_book}
use Rattle.cover_book.proofs.Grown.{step_keeps_problem}
use Rattle.cover_book.proofs.Lists.{get_left, get_right}
use Rattle.cover_book.proofs.Lookups.{states_count, more_states}
use Rattle.box_worker.specs.Worked.{AreLemmasFor}
use Rattle.solve_core.specs.declared.search.Search.{Search}
use Rattle.solve_core.specs.Reaches.{Reaches}
use Rattle.cover_book.specs.Left.{IsLeftLive}
use Rattle.solve_core.specs.Search.{IsUnderWay, IsSearch, CanFind, CanCommit, CanLearn, CanHand}
use Rattle.solve_core.proofs.Reached.{one_call}
use Rattle.solve_core.proofs.Left.{commit_leaves, CommitLeaves}
use Rattle.solve_core.proofs.Waits.{Same, usable_still, kept_still, kid_list, waits_after, waits_less, left_still}

-- what follows from what holds where there is a value
pub if_ok : {T E : Type 0} (r : Result T E) (P Q : Type 0) → OnOk r P → (P → Q) → OnOk r Q
if_ok (Ok x) P Q h f = f h
if_ok (Err e) P Q h f = tt

-- with a search goes one of an equal book, equal lists
pub same_search : (s' : Search) (b : BookModel) (waiting : List ℕ) (lemmas : List LemmaModel) → s'.book ≡ b → s'.waiting.items ≡ waiting → s'.lemmas.items ≡ lemmas → IsUnderWay b waiting lemmas → IsSearch s' s'.waiting.items
same_search s' b waiting lemmas e f g h = subst (λ (c : BookModel). IsUnderWay c s'.waiting.items s'.lemmas.items) (sym e)
    (subst (λ (xs : List ℕ). IsUnderWay b xs s'.lemmas.items) (sym f) (subst (IsUnderWay b waiting) (sym g) h))

same-live : (b : BookModel) (n : ℕ) (S T : State) → IsLive b n S → IsLive b n T → S ≡ T
same-live b n S T e f = cc

no-point : (b : BookModel) (x : Space) → b.point ≡ None → b.point ≡ Some x → ⊥
no-point b x e f = cc

all-at : {X : Type 0} (F : X → Type 0) (xs : List X) (i : ℕ) (x : X) → slice_get xs i ≡ Some x → All F xs → F x
all-at F [] i x e h = cc
all-at F (y ∷ xs) zero x e h = let q : y ≡ x = cc in subst F q (All-head F y xs h)
all-at F (y ∷ xs) (suc i) x e h = all-at F xs i x e (All-tail F y xs h)

none-unknown : (b : BookModel) (quoted : List LemmaModel) (i : ℕ) → AreKept (lemma_states_in b) quoted → IsFirstUnknown b quoted i → ⊥
none-unknown b quoted i h u = u.unknown (all-at (λ (l : LemmaModel). slice_get (lemma_states_in b) l.id ≡ Some l.state) quoted u.place u.lemma u.there h)

-- ---- a commit

ends-at : (o : Option End) → IsSome o → (l : Line) × (end_of o ≡ Some l)
ends-at None h = absurd (true≢false (sym h))
ends-at (Some e) h = (end_line e, refl)

module _ (s : Search) (n : ℕ) (P : KeptPatch) (h : CanCommit s n P) where
  pub commit_meets : MayBeCalled s.book (Commit n P)
  commit_meets = (h.run, h.ended)

  leaves : (c : Kids) (b' : BookModel) → CommitStep s.book n (kept_of P) c b' → CommitLeaves s.book n c b'
  leaves c b' k = let e = ends-at P.end h.ended in commit_leaves s.book n (kept_of P) e.0 e.1 c b' k

  pub committed_after : (s' : Search) (c : Kids) → CommitStep s.book n (kept_of P) c s'.book → s'.waiting.items ≡ s.waiting.items ++ kid_list c → s'.lemmas.items ≡ s.lemmas.items → IsSearch s' s'.waiting.items
  committed_after s' c k e f =
      let same : Same s.book s'.book = step_keeps_problem s.book (Commit n P) (Committed c) s'.book k in
      let w : CommitLeaves s.book n c s'.book = leaves c s'.book k in
      same_search s' s'.book (s.waiting.items ++ kid_list c) s.lemmas.items refl e f (record {
        waits = λ _. waits_after s.book s'.book n c s.waiting.items same w (h.at.search.waits h.at.no_point);
        kept = kept_still s.book s'.book s.lemmas.items same w.lemmas h.at.search.kept;
        usable = usable_still s.book s'.book s.lemmas.items same h.at.search.usable;
      })

  -- a node whose branch the budget does not allow stays live
  pub unspent_after : (s' : Search) (count : ℕ) → IsCommitRefusal s.book n (kept_of P) (BudgetSpent count) → s'.book ≡ s.book → s'.waiting.items ≡ s.waiting.items → s'.lemmas.items ≡ s.lemmas.items → IsSearch s' s'.waiting.items
  unspent_after s' count r b e f =
      let due : (S : State) → IsLive s.book n S → IsLeftLive s.book S =
      λ S k. let q : P.first ≡ S = same-live s.book n P.first S h.at.live k in subst (IsLeftLive s.book) q (record { not_shown = h.due r.2; spent = r.3 }) in
      same_search s' s.book s.waiting.items s.lemmas.items b e f (record { waits = λ q. waits_less s.book n s.waiting.items due (h.at.search.waits q); kept = h.at.search.kept; usable = h.at.search.usable })

  -- what else might refuse it does not
  pub commit_refusals : (e : BookRefusal) → IsCommitRefusal s.book n (kept_of P) e → (e ≡ Memory) ⊎ ((count : ℕ) × (e ≡ BudgetSpent count))
  commit_refusals (NotOpen m) r = absurd (r.1 P.first h.at.live)
  commit_refusals (OtherState S) r = absurd (r.1 (same-live s.book n P.first S h.at.live r.0))
  commit_refusals (UnknownLemma i count) r = absurd (none-unknown s.book (kept_of P).quoted i h.quoted r.1)
  commit_refusals (BudgetSpent count) r = inr (count, refl)
  commit_refusals LemmasFull r = absurd r
  commit_refusals (PointKept x) r = absurd (no-point s.book x h.at.no_point r.3)
  commit_refusals Memory r = inl refl

  -- so a commit that is refused for another cause than out of memory leaves all as it was
  pub refused_after : (s' : Search) (e : BookRefusal) → IsCommitRefusal s.book n (kept_of P) e → (e ≡ Memory → ⊥) → s'.book ≡ s.book → s'.waiting.items ≡ s.waiting.items → s'.lemmas.items ≡ s.lemmas.items → IsSearch s' s'.waiting.items
  refused_after s' e r m b f g = elim (commit_refusals e r) [
    | inl k ↦ absurd (m k)
    | inr k ↦ unspent_after s' k.0 (subst (IsCommitRefusal s.book n (kept_of P)) k.1 r) b f g
  ]

  pub commit_reaches : (c : Kids) (b' : BookModel) → CommitStep s.book n (kept_of P) c b' → Reaches s.book b'
  commit_reaches c b' k = one_call s.book b' (Commit n P) (Committed c) commit_meets k

-- ---- a lemma

closed-end : (o : Option Line) → IsTrue (closes o) → (l : Line) × (o ≡ Some l)
closed-end None h = absurd (true≢false (sym h))
closed-end (Some l) h = (l, refl)

more-kept : (b : BookModel) (x : LearnedLemma) (lemmas : List LemmaModel) → AreKept (lemma_states_in b) lemmas → AreKept (lemma_states_in (with_lemma b x)) lemmas
more-kept b x lemmas h = All-weaker (λ (l : LemmaModel). slice_get (lemma_states_in b) l.id ≡ Some l.state) (λ (l : LemmaModel). slice_get (lemma_states_in (with_lemma b x)) l.id ≡ Some l.state)
    (λ l e. subst (λ (ys : List State). slice_get ys l.id ≡ Some l.state) (more_states b x) (get_left (lemma_states_in b) (x.state ∷ []) l.id l.state e)) lemmas h

new-kept : (b : BookModel) (x : LearnedLemma) → slice_get (lemma_states_in (with_lemma b x)) (lemma_count b) ≡ Some x.state
new-kept b x = subst (λ (ys : List State). slice_get ys (lemma_count b) ≡ Some x.state) (more_states b x)
    (let e : lemma_count b ≡ length (lemma_states_in b) + 0 = omega (arith, states_count b) in
    ap (slice_get (lemma_states_in b ++ (x.state ∷ []))) e ∙ get_right (lemma_states_in b) (x.state ∷ []) 0)

learned-under : (b : BookModel) (x : LearnedLemma) (waiting : List ℕ) (lemmas : List LemmaModel) → IsUnderWay b waiting lemmas → IsUnderWay (with_lemma b x) waiting lemmas
learned-under b x waiting lemmas h = record {
  waits = λ q n S k. elim (h.waits q n S k) [ inl c ↦ inl c | inr w ↦ inr (left_still b (with_lemma b x) S (refl, refl, refl, refl) (omega arith) w) ];
  kept = more-kept b x lemmas h.kept;
  usable = h.usable;
}

module _ (s : Search) (k : KeptModel) (h : CanLearn s k) where
  pub learn_meets : IsRun (problem_in s.book) (margins_of s.book.options) k × IsClosed k
  learn_meets = (h.run, h.closed)

  -- the new lemma may be handed on
  pub can_hand : (s' : Search) (i : ℕ) (S : State) → LemmaStep s.book k i s'.book → S ≡ k.first → s'.waiting.items ≡ s.waiting.items → s'.lemmas.items ≡ s.lemmas.items → CanHand s' (record { id = i; state = S })
  can_hand s' i S w q e f =
      let l = closed-end k.end h.closed in
      let x : LearnedLemma = record { state = k.first; steps = k.steps; end = l.0 } in
      let b : s'.book ≡ with_lemma s.book x = w.book ∙ ap (learned_book s.book k) l.1 in
      let u : IsUnderWay (with_lemma s.book x) s.waiting.items s.lemmas.items = learned-under s.book x s.waiting.items s.lemmas.items h.search in
      let L : LemmaModel = record { id = lemma_count s.book; state = k.first } in
      let same : record { id = i; state = S } ≡ L = ap (λ (j : ℕ). record { id = j; state = S }) w.number ∙ ap (λ (T : State). record { id = lemma_count s.book; state = T }) q in
      let kept : AreKept (lemma_states_in (with_lemma s.book x)) (L ∷ []) = All-cons (λ (m : LemmaModel). slice_get (lemma_states_in (with_lemma s.book x)) m.id ≡ Some m.state) L [] (new-kept s.book x) (All-nil (λ (m : LemmaModel). slice_get (lemma_states_in (with_lemma s.book x)) m.id ≡ Some m.state)) in
      let usable : AreLemmasFor (problem_in s.book) (loosenings_in s.book) (L ∷ []) =
      All-cons (λ (m : LemmaModel). FitsProblem (problem_in s.book) m.state × IsLemma (problem_in s.book) (loosenings_in s.book) m.state) L []
      (h.run.sound.first, closed_is_lemma (problem_in s.book) (margins_of s.book.options) k h.run h.closed)
      (All-nil (λ (m : LemmaModel). FitsProblem (problem_in s.book) m.state × IsLemma (problem_in s.book) (loosenings_in s.book) m.state)) in
      record {
        search = same_search s' (with_lemma s.book x) s.waiting.items s.lemmas.items b e f u;
        kept = subst (λ (c : BookModel). AreKept (lemma_states_in c) (record { id = i; state = S } ∷ [])) (sym b) (subst (λ (m : LemmaModel). AreKept (lemma_states_in (with_lemma s.book x)) (m ∷ [])) (sym same) kept);
        usable = subst (λ (c : BookModel). AreLemmasFor (problem_in c) (loosenings_in c) (record { id = i; state = S } ∷ [])) (sym b) (subst (λ (m : LemmaModel). AreLemmasFor (problem_in s.book) (loosenings_in s.book) (m ∷ [])) (sym same) usable);
      }

  pub learn_reaches : (i : ℕ) (b' : BookModel) → LemmaStep s.book k i b' → Reaches s.book b'
  learn_reaches i b' w = one_call s.book b' (Learn k) (Learned i) learn_meets w

-- a lemma more, then some fewer at the front
pub handed : (s : Search) (L : LemmaModel) → CanHand s L → (k : ℕ) (lemmas : List LemmaModel) → lemmas ≡ drop k (s.lemmas.items ++ (L ∷ [])) → IsUnderWay s.book s.waiting.items lemmas
handed s L h k lemmas e =
    let Kept : LemmaModel → Type 0 = λ (m : LemmaModel). slice_get (lemma_states_in s.book) m.id ≡ Some m.state in
    let Usable : LemmaModel → Type 0 = λ (m : LemmaModel). FitsProblem (problem_in s.book) m.state × IsLemma (problem_in s.book) (loosenings_in s.book) m.state in
    let all : List LemmaModel = s.lemmas.items ++ (L ∷ []) in
    subst (IsUnderWay s.book s.waiting.items) (sym e) (record {
      waits = h.search.waits;
      kept = All-drop Kept k all (All-append Kept s.lemmas.items (L ∷ []) h.search.kept h.kept);
      usable = All-drop Usable k all (All-append Usable s.lemmas.items (L ∷ []) h.search.usable h.usable);
    })

-- ---- a point

pub find_reaches : (s : Search) (n : ℕ) (x : Space) → CanFind s n x → (b' : BookModel) → PointStep s.book n x b' → Reaches s.book b'
find_reaches s n x h b' w = one_call s.book b' (Find n x) Found h.shown w
