-- Every call keeps a book one.
use Rattle.std.proofs.Common.{◌≡◌, inl, inr, ℕ, zero, suc, ◌<◌, List, [], ◌∷◌, ◌++◌, map, length, Option, Some, None, IsTrue, refl, ap, sym, ◌∙◌, subst, true≢false, append-nil, append_assoc, length-append, arith}
use Rattle.std.specs.Prelude.{slice_get, slice_set, IfSome, IsSome}
use Rattle.std.specs.List.{AllByRecursion}
use Rattle.std.proofs.lemmas.List.{map-append, length-set}
use Rattle.std.proofs.lemmas.List.Elements.{All-push}
use Rattle.poly_graph.specs.Problem.{Problem}
use Rattle.interval_model.specs.Space.{Space}
use Rattle.cover_model.specs.Space.{IsGridSpace}
use Rattle.cover_model.specs.State.{State, Loosenings}
use Rattle.cover_model.specs.Rules.{Line, open_line}
use Rattle.cover_model.specs.Derivation.{leaf, Lawful}
use Rattle.cover_model.specs.Fits.{IsShownAt}
use Rattle.cover_data.specs.declared.kept.KeptPatch.{KeptPatch}
use Rattle.cover_data.specs.declared.step.End.{End}
use Rattle.cover_data.specs.declared.step.End.TheVariants.{Close, Part, Stuck}
use Rattle.cover_data.specs.Models.{KeptModel}
use Rattle.cover_data.specs.Views.{kept_of, end_of, end_line}
use Rattle.cover_data.specs.Runs.{AreKept, is_closing, IsClosed, IsRun, closes, children, tree_after}
use Rattle.cover_data.proofs.Proved.{closed_is_tree}
use Rattle.cert_model.specs.Due.{names_well}
use Rattle.cert_model.specs.Written.{LemmaTree, lemma_states, IsLemmaTree, AreLemmaTrees}
use Rattle.cover_book.specs.declared.calls.Call.TheVariants.{Commit, Learn, Find, StateOf, LemmasFrom}
use Rattle.cover_book.specs.declared.calls.Reply.TheVariants.{Committed, Learned, Found, LiveState, Lemmas, Refused}
use Rattle.cover_book.specs.declared.refusal.BookRefusal.TheVariants.{Memory}
use Rattle.cover_book.specs.declared.refusal.Kids.{Kids}
use Rattle.cover_book.specs.Model.{LearnedLemma, NodeModel, live_node, crossed_node, parted_node, BookModel, problem_in, margins_of, loosenings_in, lemma_states_in, lemma_count}
use Rattle.cover_book.specs.Steps.{IsLive, most_lemmas, ends_in_branch, ended_node, parted_book, committed_book, CommitStep, with_lemma, learned_book, LemmaStep, PointStep}
use Rattle.cover_book.specs.Tree.{lemma_tree, lemma_trees, cover_lemmas}
use Rattle.cover_book.specs.Keeps.{IsNodeOf, IsCovered, IsCrossed, IsBook}
use Rattle.cover_book.specs.Laws.{StepKeepsBook}
use Rattle.cover_book.proofs.Lists.{all_append}
use Rattle.cover_book.proofs.Changed.{lines_after}
use Rattle.cover_book.proofs.Naming.{run_names}
use Rattle.cover_book.proofs.Lookups.{more_states}
use Rattle.cover_book.proofs.Nodes.{node_still}
use Rattle.cover_book.proofs.Commit.{parted_keeps, two_ends}

-- ---- commits

nowhere : (i n : ℕ) (S : State) → slice_get (crossed_node i ∷ []) n ≡ Some (live_node S) → ⊥
nowhere i zero S e = cc
nowhere i (suc n) S e = cc

-- a book whose declared box is empty has no live node
pub never_live : (b : BookModel) → IsCrossed b → (n : ℕ) (S : State) → IsLive b n S → ⊥
never_live b h n S e = nowhere h.axis n S (subst (λ (xs : List NodeModel). slice_get xs n ≡ Some (live_node S)) h.nodes e)

-- the end of a patch is no open line
end-not-open : (e : End) → end_line e ≡ open_line → ⊥
end-not-open (Close c) h = cc
end-not-open (Part b) h = cc
end-not-open (Stuck j) h = cc

some-end : (o : Option End) (l : Line) → end_of o ≡ Some l → l ≡ open_line → ⊥
some-end None l h q = cc
some-end (Some e) l h q = let k : end_line e ≡ l = cc in end-not-open e (k ∙ q)

has-end : (o : Option End) → IsSome o → (l : Line) × (end_of o ≡ Some l)
has-end None h = absurd (true≢false (sym h))
has-end (Some e) h = (end_line e, refl)

parts-keep : (b : BookModel) → IsBook b → (n : ℕ) (k : KeptModel) (l : Line) → k.end ≡ Some l → (IsTrue (ends_in_branch k.end) → b.branches < b.options.budget) →
    (o : Option (State × State)) → children l k.reached ≡ o → IsCovered (parted_book b n k l o) → IsBook (parted_book b n k l o)
parts-keep b w n k l e a None c h = record {
  whole = w.whole;
  limits = w.limits;
  kept = w.kept;
  lemmas = w.lemmas;
  lemma_grids = w.lemma_grids;
  few_lemmas = w.few_lemmas;
  budget = w.budget;
  count = omega (arith, w.count, length-set b.nodes n (ended_node k l));
  point = w.point;
  nodes = inr h;
}
parts-keep b w n k l e a (Some o) c h = record {
  whole = w.whole;
  limits = w.limits;
  kept = w.kept;
  lemmas = w.lemmas;
  lemma_grids = w.lemma_grids;
  few_lemmas = w.few_lemmas;
  budget = subst (λ (x : Option Line). IsTrue (ends_in_branch x) → b.branches < b.options.budget) e a (two_ends l k.reached o c).1;
  count = omega (arith, w.count, length-append (slice_set b.nodes n (parted_node k.steps l (length b.nodes))) (live_node o.0 ∷ live_node o.1 ∷ []), length-set b.nodes n (parted_node k.steps l (length b.nodes)));
  point = w.point;
  nodes = inr h;
}

commit-covered : (b : BookModel) → IsBook b → (n : ℕ) (P : KeptPatch) → IsRun (problem_in b) (margins_of b.options) (kept_of P) → (c : Kids) (b' : BookModel) → CommitStep b n (kept_of P) c b' →
    (l : Line) → end_of P.end ≡ Some l → IsCovered b → IsBook (parted_book b n (kept_of P) l (children l P.reached))
commit-covered b w n P r c b' s l e h = parts-keep b w n (kept_of P) l e (s.passes.affords) (children l P.reached) refl
    (parted_keeps b w.whole.problem h n (kept_of P) l s.passes.live s.passes.known r s.grid e (some-end P.end l e) (children l P.reached) refl)

commit-keeps : (b : BookModel) → IsBook b → (n : ℕ) (P : KeptPatch) → IsRun (problem_in b) (margins_of b.options) (kept_of P) → IsSome P.end → (c : Kids) (b' : BookModel) → CommitStep b n (kept_of P) c b' → IsBook b'
commit-keeps b w n P r f c b' s = let e = has-end P.end f in
    subst IsBook (sym (s.book ∙ ap (committed_book b n (kept_of P)) e.1))
    (elim w.nodes [ inl h ↦ absurd (never_live b h n P.first s.passes.live) | inr h ↦ commit-covered b w n P r c b' s e.0 e.1 h ])

-- ---- lemmas

states-of-trees : (xs : List LearnedLemma) → lemma_states (map lemma_tree xs) ≡ map (λ (x : LearnedLemma). x.state) xs
states-of-trees [] = refl
states-of-trees (x ∷ xs) = ap (λ (ys : List State). x.state ∷ ys) (states-of-trees xs)

pub same_states : (b : BookModel) → cover_lemmas b ≡ lemma_states_in b
same_states b = ap (λ (ys : List State). b.kept ++ ys) (states-of-trees b.lemmas)

one-more : (p : Problem) (s : Loosenings) (before : List State) (xs : List LemmaTree) (x : LemmaTree) → AreLemmaTrees p s before xs → IsLemmaTree p s (before ++ lemma_states xs) x → AreLemmaTrees p s before (xs ++ (x ∷ []))
one-more p s before [] x h k = (subst (λ (ys : List State). IsLemmaTree p s ys x) (append-nil before) k, tt)
one-more p s before (y ∷ xs) x h k = (h.0, one-more p s (before ++ (y.state ∷ [])) xs x h.1 (subst (λ (ys : List State). IsLemmaTree p s ys x) (sym (append_assoc before (y.state ∷ []) (lemma_states xs))) k))

module _ (b : BookModel) (w : IsBook b) (k : KeptModel) (r : IsRun (problem_in b) (margins_of b.options) k) (known : AreKept (lemma_states_in b) k.quoted) (grid : IsGridSpace k.first.space) (reached : IsGridSpace k.reached.space)
    (room : lemma_count b < most_lemmas) (l : Line) (e : k.end ≡ Some l) (c : IsClosed k) where
  abbrev new : LearnedLemma
  new = record { state = k.first; steps = k.steps; end = l }

  closing : IsTrue (is_closing l)
  closing = subst (λ (o : Option Line). IsTrue (closes o)) e c

  new-tree : IsLemmaTree (problem_in b) (loosenings_in b) (cover_lemmas b) (lemma_tree new)
  new-tree = let names = run_names (problem_in b) w.whole.problem (margins_of b.options) (lemma_states_in b) k r reached known in record {
    fits = r.sound.first.axes;
    marks = r.sound.first.marks;
    lawful = subst (λ (ys : List State). Lawful (problem_in b) (loosenings_in b) ys k.first (tree_after k.steps (leaf l)) []) (sym (same_states b))
        (closed_is_tree (problem_in b) (margins_of b.options) k r.lawful (lemma_states_in b) known l e closing);
    names = subst (AllByRecursion (λ (m : Line). IsTrue (names_well (problem_in b) m))) (sym (lines_after k.steps (leaf l)))
        (all_append (λ (m : Line). IsTrue (names_well (problem_in b) m)) k.steps (l ∷ []) names.steps (subst (λ (o : Option Line). IfSome o (λ (m : Line). IsTrue (names_well (problem_in b) m))) e names.end, tt));
  }

  covered-still : IsCovered b → IsCovered (with_lemma b new)
  covered-still h = record {
    not_crossed = h.not_crossed;
    firsts = h.firsts;
    count = h.count;
    root = h.root;
    fits = h.fits;
    each = λ n S x f g. subst (λ (ys : List State). IsNodeOf (problem_in b) (margins_of b.options) ys h.firsts S x) (more_states b new)
        (node_still (problem_in b) (margins_of b.options) (lemma_states_in b) (k.first ∷ []) h.firsts S x (h.each n S x f g));
    tree = h.tree;
    numbers = h.numbers;
    left = h.left;
    is_tree = h.is_tree;
    once = h.once;
    branches = h.branches;
  }

  pub lemma_keeps : IsBook (with_lemma b new)
  lemma_keeps = record {
    whole = w.whole;
    limits = w.limits;
    kept = w.kept;
    lemmas = subst (AreLemmaTrees (problem_in b) (loosenings_in b) b.kept) (sym (map-append lemma_tree b.lemmas (new ∷ []))) (one-more (problem_in b) (loosenings_in b) b.kept (lemma_trees b) (lemma_tree new) w.lemmas new-tree);
    lemma_grids = All-push (λ (x : LearnedLemma). IsGridSpace x.state.space) b.lemmas new w.lemma_grids grid;
    few_lemmas = omega (arith, length-append b.lemmas (new ∷ []), room);
    budget = w.budget;
    count = w.count;
    point = w.point;
    nodes = elim w.nodes [ inl h ↦ inl (record { axis = h.axis; first = h.first; nodes = h.nodes; branches = h.branches; no_point = h.no_point }) | inr h ↦ inr (covered-still h) ];
  }

closed-end : (k : KeptModel) (o : Option Line) → k.end ≡ o → IsClosed k → (l : Line) × (k.end ≡ Some l)
closed-end k None e c = absurd (true≢false (sym (subst (λ (o : Option Line). IsTrue (closes o)) e c)))
closed-end k (Some l) e c = (l, e)

learn-keeps : (b : BookModel) → IsBook b → (k : KeptModel) → IsRun (problem_in b) (margins_of b.options) k → IsClosed k → (i : ℕ) (b' : BookModel) → LemmaStep b k i b' → IsBook b'
learn-keeps b w k r c i b' s = let e = closed-end k k.end refl c in
    subst IsBook (sym (s.book ∙ ap (learned_book b k) e.1)) (lemma_keeps b w k r s.known s.grid s.reached s.room e.0 e.1 c)

-- ---- points

find-keeps : (b : BookModel) → IsBook b → (n : ℕ) (x : Space) → IsShownAt (problem_in b) (loosenings_in b) x → (b' : BookModel) → PointStep b n x b' → IsBook b'
find-keeps b w n x h b' s = subst IsBook (sym s.book) (record {
  whole = w.whole;
  limits = w.limits;
  kept = w.kept;
  lemmas = w.lemmas;
  lemma_grids = w.lemma_grids;
  few_lemmas = w.few_lemmas;
  budget = w.budget;
  count = w.count;
  point = (h, s.grid);
  nodes = elim w.nodes [
    | inl c ↦ absurd (never_live b c n s.live.0 s.live.1)
    | inr c ↦ inr (record {
      not_crossed = c.not_crossed;
      firsts = c.firsts;
      count = c.count;
      root = c.root;
      fits = c.fits;
      each = c.each;
      tree = c.tree;
      numbers = c.numbers;
      left = c.left;
      is_tree = c.is_tree;
      once = c.once;
      branches = c.branches;
    })
  ];
})

-- ---- all calls

pub step_keeps_book : StepKeepsBook
step_keeps_book b w (Commit n P) m (Committed c) b' s = commit-keeps b w n P m.0 m.1 c b' s
step_keeps_book b w (Commit n P) m (Refused e) b' s = subst IsBook (sym s.1) w
step_keeps_book b w (Learn k) m (Learned i) b' s = learn-keeps b w k m.0 m.1 i b' s
step_keeps_book b w (Learn k) m (Refused e) b' s = subst IsBook (sym s.1) w
step_keeps_book b w (Find n x) m Found b' s = find-keeps b w n x m b' s
step_keeps_book b w (Find n x) m (Refused e) b' s = subst IsBook (sym s.1) w
step_keeps_book b w (StateOf n) m (LiveState S) b' s = subst IsBook (sym s.1) w
step_keeps_book b w (StateOf n) m (Refused e) b' s = subst IsBook (sym s.1) w
step_keeps_book b w (LemmasFrom i) m (Lemmas v) b' s = subst IsBook (sym s.1) w
step_keeps_book b w (LemmasFrom i) m (Refused Memory) b' s = subst IsBook (sym s) w
step_keeps_book b w c m r b' s = absurd s
