-- No call changes the problem, and a book grows at its live nodes alone.
use Rattle.std.proofs.Common.{◌≡◌, ℕ, List, ◌++◌, length, true, false, Option, Some, None, refl, ap, sym, ◌∙◌, subst, length-append, arith}
use Rattle.std.specs.Prelude.{slice_get, slice_set}
use Rattle.std.proofs.lemmas.List.{length-set}
use Rattle.cover_model.specs.State.{State}
use Rattle.cover_model.specs.Rules.{Line}
use Rattle.poly_graph.specs.ProblemViews.{Parts, problem_of}
use Rattle.cover_model.specs.Fits.{IsShownAt}
use Rattle.cover_data.specs.declared.margins.Options.{Options}
use Rattle.cover_data.specs.Margins.{loosenings_of}
use Rattle.cover_data.specs.Models.{KeptModel}
use Rattle.cover_data.specs.Views.{kept_of}
use Rattle.cover_data.specs.Runs.{IsRun, children}
use Rattle.cover_book.specs.declared.calls.Call.{Call}
use Rattle.cover_book.specs.declared.calls.Call.TheVariants.{Commit, Learn, Find, StateOf, LemmasFrom}
use Rattle.cover_book.specs.declared.calls.Reply.TheVariants.{Committed, Learned, Found, LiveState, Lemmas, Refused}
use Rattle.cover_book.specs.declared.refusal.BookRefusal.TheVariants.{Memory}
use Rattle.cover_book.specs.Model.{NodeModel, live_node, BookModel, margins_of}
use Rattle.cover_book.specs.Verdict.{is_live}
use Rattle.cover_book.specs.Steps.{MayBeCalled, IsLive, with_nodes, ended_node, parted_book, committed_book, with_lemma, learned_book}
use Rattle.cover_book.specs.Laws.{StepKeepsProblem, ConditionLasts, StepGrows, IsLaterBook}
use Rattle.cover_book.proofs.Lists.{get_left, set_other}

-- ---- the problem, the options, and what the book opened with

abbrev Same : BookModel → BookModel → Type 0
Same b b' = (b'.problem ≡ b.problem) × (b'.options ≡ b.options) × (b'.kept ≡ b.kept) × (b'.root ≡ b.root)

same-parted : (b : BookModel) (n : ℕ) (k : KeptModel) (l : Line) (o : Option (State × State)) → Same b (parted_book b n k l o)
same-parted b n k l None = (refl, refl, refl, refl)
same-parted b n k l (Some (S, T)) = (refl, refl, refl, refl)

same-committed_book : (b : BookModel) (n : ℕ) (k : KeptModel) (o : Option Line) → Same b (committed_book b n k o)
same-committed_book b n k None = (refl, refl, refl, refl)
same-committed_book b n k (Some l) = same-parted b n k l (children l k.reached)

same-learned_book : (b : BookModel) (k : KeptModel) (o : Option Line) → Same b (learned_book b k o)
same-learned_book b k None = (refl, refl, refl, refl)
same-learned_book b k (Some l) = (refl, refl, refl, refl)

same-as : (b c : BookModel) → c ≡ b → Same b c
same-as b c e = (ap (λ (x : BookModel). x.problem) e, ap (λ (x : BookModel). x.options) e, ap (λ (x : BookModel). x.kept) e, ap (λ (x : BookModel). x.root) e)

same-by : (b c b' : BookModel) → b' ≡ c → Same b c → Same b b'
same-by b c b' e h = subst (Same b) (sym e) h

pub step_keeps_problem : StepKeepsProblem
step_keeps_problem b (Commit n P) (Committed c) b' s = same-by b (committed_book b n (kept_of P) (kept_of P).end) b' s.book (same-committed_book b n (kept_of P) (kept_of P).end)
step_keeps_problem b (Commit n P) (Refused e) b' s = same-as b b' s.1
step_keeps_problem b (Learn k) (Learned i) b' s = same-by b (learned_book b k k.end) b' s.book (same-learned_book b k k.end)
step_keeps_problem b (Learn k) (Refused e) b' s = same-as b b' s.1
step_keeps_problem b (Find n x) Found b' s = same-by b _ b' s.book (refl, refl, refl, refl)
step_keeps_problem b (Find n x) (Refused e) b' s = same-as b b' s.1
step_keeps_problem b (StateOf n) (LiveState S) b' s = same-as b b' s.1
step_keeps_problem b (StateOf n) (Refused e) b' s = same-as b b' s.1
step_keeps_problem b (LemmasFrom i) (Lemmas v) b' s = same-as b b' s.1
step_keeps_problem b (LemmasFrom i) (Refused Memory) b' s = same-as b b' s
step_keeps_problem b c r b' s = absurd s

-- a condition that speaks of the problem and the options alone
carried : (F : Parts → Options → Type 0) (b b' : BookModel) → Same b b' → F b.problem b.options → F b'.problem b'.options
carried F b b' e h = subst (λ (p : Parts). F p b'.options) (sym e.0) (subst (λ (o : Options). F b.problem o) (sym e.1) h)

lasts : (b b' : BookModel) (d : Call) → Same b b' → MayBeCalled b d → MayBeCalled b' d
lasts b b' (Commit n P) e m = (carried (λ p o. IsRun (problem_of p) (margins_of o) (kept_of P)) b b' e m.0, m.1)
lasts b b' (Learn k) e m = (carried (λ p o. IsRun (problem_of p) (margins_of o) k) b b' e m.0, m.1)
lasts b b' (Find n x) e m = carried (λ p o. IsShownAt (problem_of p) (loosenings_of (margins_of o)) x) b b' e m
lasts b b' (StateOf n) e m = m
lasts b b' (LemmasFrom i) e m = m

pub condition_lasts : ConditionLasts
condition_lasts b c r b' d s m = lasts b b' d (step_keeps_problem b c r b' s) m

-- ---- nodes

not-live : (b : BookModel) (n m : ℕ) (S : State) (x : NodeModel) → IsLive b n S → slice_get b.nodes m ≡ Some x → is_live x ≡ false → m ≡ n → ⊥
not-live b n m S x h e f q = let g : slice_get b.nodes n ≡ Some x = subst (λ (i : ℕ). slice_get b.nodes i ≡ Some x) q e in let w : live_node S ≡ x = cc in
    let t : true ≡ false = ap is_live w ∙ f in cc

grown-at : (b : BookModel) (n : ℕ) (S : State) → IsLive b n S → (y : NodeModel) (more : List NodeModel) (branches : ℕ) → IsLaterBook b (with_nodes b (slice_set b.nodes n y ++ more) branches)
grown-at b n S h y more branches = record {
  count = omega (arith, length-append (slice_set b.nodes n y) more, length-set b.nodes n y);
  lasting = λ m x e f. get_left (slice_set b.nodes n y) more m x (set_other b.nodes n m y (not-live b n m S x h e f) ∙ e);
}

grown-in-place : (b : BookModel) (n : ℕ) (S : State) → IsLive b n S → (y : NodeModel) (branches : ℕ) → IsLaterBook b (with_nodes b (slice_set b.nodes n y) branches)
grown-in-place b n S h y branches = record {
  count = omega (arith, length-set b.nodes n y);
  lasting = λ m x e f. set_other b.nodes n m y (not-live b n m S x h e f) ∙ e;
}

grown-parted : (b : BookModel) (n : ℕ) (k : KeptModel) (l : Line) (o : Option (State × State)) → IsLive b n k.first → IsLaterBook b (parted_book b n k l o)
grown-parted b n k l None h = grown-in-place b n k.first h (ended_node k l) b.branches
grown-parted b n k l (Some (S, T)) h = grown-at b n k.first h _ _ _

same-nodes : (b c : BookModel) → c.nodes ≡ b.nodes → IsLaterBook b c
same-nodes b c e = record {
  count = omega (arith, ap (λ (xs : List NodeModel). length xs) e);
  lasting = λ m x f g. subst (λ (xs : List NodeModel). slice_get xs m ≡ Some x) (sym e) f;
}

grown-committed_book : (b : BookModel) (n : ℕ) (k : KeptModel) (o : Option Line) → IsLive b n k.first → IsLaterBook b (committed_book b n k o)
grown-committed_book b n k None h = same-nodes b b refl
grown-committed_book b n k (Some l) h = grown-parted b n k l (children l k.reached) h

grown-learned_book : (b : BookModel) (k : KeptModel) (o : Option Line) → IsLaterBook b (learned_book b k o)
grown-learned_book b k None = same-nodes b b refl
grown-learned_book b k (Some l) = same-nodes b (with_lemma b _) refl

grown-by : (b c b' : BookModel) → b' ≡ c → IsLaterBook b c → IsLaterBook b b'
grown-by b c b' e h = subst (IsLaterBook b) (sym e) h

unchanged : (b b' : BookModel) → b' ≡ b → IsLaterBook b b'
unchanged b b' e = grown-by b b b' e (same-nodes b b refl)

pub step_grows : StepGrows
step_grows b (Commit n P) (Committed c) b' s = grown-by b (committed_book b n (kept_of P) (kept_of P).end) b' s.book (grown-committed_book b n (kept_of P) (kept_of P).end s.passes.live)
step_grows b (Commit n P) (Refused e) b' s = unchanged b b' s.1
step_grows b (Learn k) (Learned i) b' s = grown-by b (learned_book b k k.end) b' s.book (grown-learned_book b k k.end)
step_grows b (Learn k) (Refused e) b' s = unchanged b b' s.1
step_grows b (Find n x) Found b' s = grown-by b _ b' s.book (same-nodes b _ refl)
step_grows b (Find n x) (Refused e) b' s = unchanged b b' s.1
step_grows b (StateOf n) (LiveState S) b' s = unchanged b b' s.1
step_grows b (StateOf n) (Refused e) b' s = unchanged b b' s.1
step_grows b (LemmasFrom i) (Lemmas v) b' s = unchanged b b' s.1
step_grows b (LemmasFrom i) (Refused Memory) b' s = unchanged b b' s
step_grows b c r b' s = absurd s
