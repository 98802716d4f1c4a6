-- What is known of a node stays known as the book grows.
use Rattle.std.proofs.Common.{◌≡◌, inl, inr, ℕ, zero, suc, ◌+◌, ◌-◌, ◌*◌, ◌<◌, List, [], ◌∷◌, ◌++◌, map, length, Some, IsTrue, refl, ap, sym, ◌∙◌, subst, length-append, arith}
use Rattle.std.specs.Prelude.{slice_get, slice_set}
use Rattle.std.proofs.lemmas.Option.{slice_get_within}
use Rattle.std.proofs.lemmas.Bool.Decides.{eqb_tells, leb_tells}
use Rattle.std.proofs.lemmas.List.{length-set, length-map}
use Rattle.std.proofs.lemmas.List.Elements.{All-weaker}
use Rattle.poly_graph.specs.Problem.{Problem}
use Rattle.cover_model.specs.State.{State, root_state, covers}
use Rattle.cover_model.specs.Rules.{Line}
use Rattle.cover_model.specs.Derivation.{Tree}
use Rattle.cover_model.specs.Fits.{FitsProblem}
use Rattle.cover_data.specs.declared.margins.Margins.{Margins}
use Rattle.cover_data.specs.Models.{LemmaModel}
use Rattle.cover_data.specs.Runs.{AreKept}
use Rattle.cert_model.specs.Due.{Standing}
use Rattle.cert_model.specs.Written.{tree_branches}
use Rattle.cover_book.specs.Model.{NodeModel, live_node, crossed_node, closed_node, parted_node, stuck_node, BookModel, problem_in, margins_of, lemma_states_in}
use Rattle.cover_book.specs.Steps.{with_nodes}
use Rattle.cover_book.specs.Tree.{TreeOf, occurrences}
use Rattle.cover_book.specs.Keeps.{HasRun, IsNodeOf, IsCovered}
use Rattle.cover_book.proofs.Lists.{get_left, get_cases, get_right, set_here, set_other, some_at}
use Rattle.cover_book.proofs.Changed.{Changed, none_past, changed}

-- lemmas that are known stay known
pub still_kept : (lemmas more : List State) (quoted : List LemmaModel) → AreKept lemmas quoted → AreKept (lemmas ++ more) quoted
still_kept lemmas more quoted h =
    All-weaker (λ (l : LemmaModel). slice_get lemmas l.id ≡ Some l.state) (λ (l : LemmaModel). slice_get (lemmas ++ more) l.id ≡ Some l.state) (λ l e. get_left lemmas more l.id l.state e) quoted h

module _ (p : Problem) (m : Margins) where
  abbrev pub run_still : (lemmas more : List State) (S : State) (steps : List Line) (l : Line) → HasRun p m lemmas S steps l → HasRun p m (lemmas ++ more) S steps l
  run_still lemmas more S steps l h = record {
    run = h.run;
    first = h.first;
    steps = h.steps;
    end = h.end;
    known = still_kept lemmas more h.run.quoted h.known;
    is_run = h.is_run;
    grid = h.grid;
    not_open = h.not_open;
  }

  -- with more lemmas
  pub node_still : (lemmas more firsts : List State) (S : State) (x : NodeModel) → IsNodeOf p m lemmas firsts S x → IsNodeOf p m (lemmas ++ more) firsts S x
  node_still lemmas more firsts S (live_node T) h = h
  node_still lemmas more firsts S (crossed_node i) h = h
  node_still lemmas more firsts S (closed_node steps l) h = (run_still lemmas more S steps l h.0, h.1)
  node_still lemmas more firsts S (stuck_node steps l T) h = (run_still lemmas more S steps l h.0, h.1, h.2, h.3)
  node_still lemmas more firsts S (parted_node steps l c) h = (run_still lemmas more S steps l h.0, h.1, h.2, h.3, h.4, h.5)

  -- with more nodes
  pub node_among : (lemmas firsts more : List State) (S : State) (x : NodeModel) → IsNodeOf p m lemmas firsts S x → IsNodeOf p m lemmas (firsts ++ more) S x
  node_among lemmas firsts more S (live_node T) h = h
  node_among lemmas firsts more S (crossed_node i) h = h
  node_among lemmas firsts more S (closed_node steps l) h = h
  node_among lemmas firsts more S (stuck_node steps l T) h = h
  node_among lemmas firsts more S (parted_node steps l c) h = (h.0, h.1, h.2, h.3, get_left firsts more c h.1 h.4, get_left firsts more (suc c) h.2 h.5)

mapped : (fresh : List State) (k : ℕ) (T : State) → slice_get fresh k ≡ Some T → slice_get (map live_node fresh) k ≡ Some (live_node T)
mapped [] k T e = cc
mapped (U ∷ fresh) zero T e = let q : U ≡ T = cc in ap (λ (V : State). Some (live_node V)) q
mapped (U ∷ fresh) (suc k) T e = mapped fresh k T e

once-old : (a w e : ℕ) → a ≡ 1 → e ≡ 0 → a + w * e ≡ 1
once-old a w e h k = rw (h, k) (omega arith)

once-new : (a w e : ℕ) → a ≡ 0 → w ≡ 1 → e ≡ 1 → a + w * e ≡ 1
once-new a w e h k g = rw (h, k, g) (omega arith)

one-more : (a w e c d : ℕ) → a ≡ d → w ≡ 1 → c ≡ d + e → a + w * e ≡ c
one-more a w e c d h k g = rw (h, k, g) (omega arith)

module _ (b : BookModel) (h : IsCovered b) (n : ℕ) (S : State) (was : slice_get b.nodes n ≡ Some (live_node S)) (x : NodeModel) (fresh : List State) where
  abbrev after : List NodeModel
  after = slice_set b.nodes n x ++ map live_node fresh

  abbrev firsts : List State
  firsts = h.firsts ++ fresh

  -- the node began at its state
  pub begins : slice_get h.firsts n ≡ Some S
  begins = let f = some_at h.firsts n (omega (arith, h.count, slice_get_within b.nodes n (live_node S) was)) in let e : f.0 ≡ S = h.each n f.0 (live_node S) f.1 was in
      subst (λ (T : State). slice_get h.firsts n ≡ Some T) e f.1

  pub at_node : slice_get after n ≡ Some x
  at_node = get_left (slice_set b.nodes n x) (map live_node fresh) n x (set_here b.nodes n x (live_node S) was)

  pub at_others : (m : ℕ) (y : NodeModel) → (m ≡ n → ⊥) → slice_get b.nodes m ≡ Some y → slice_get after m ≡ Some y
  at_others m y q e = get_left (slice_set b.nodes n x) (map live_node fresh) m y (set_other b.nodes n m x q ∙ e)

  pub at_fresh : (k : ℕ) (T : State) → slice_get fresh k ≡ Some T → slice_get after (length b.nodes + k) ≡ Some (live_node T)
  at_fresh k T e = ap (λ (i : ℕ). slice_get after (i + k)) (sym (length-set b.nodes n x)) ∙ get_right (slice_set b.nodes n x) (map live_node fresh) k ∙ mapped fresh k T e

  count-after : length firsts ≡ length after
  count-after = omega (arith, length-append h.firsts fresh, length-append (slice_set b.nodes n x) (map live_node fresh), length-set b.nodes n x, length-map fresh live_node, h.count)

  abbrev IsNode : State → NodeModel → Type 0
  IsNode T y = IsNodeOf (problem_in b) (margins_of b.options) (lemma_states_in b) firsts T y

  -- what is known of each node
  each-old : IsNode S x → (m : ℕ) (T : State) (y : NodeModel) → slice_get h.firsts m ≡ Some T → slice_get (slice_set b.nodes n x) m ≡ Some y → IsNode T y
  each-old k m T y e f = elim (eqb_tells m n) [
    | inl q ↦
        let e' : slice_get h.firsts n ≡ Some T = subst (λ (i : ℕ). slice_get h.firsts i ≡ Some T) q.1 e in
        let f' : slice_get (slice_set b.nodes n x) n ≡ Some y = subst (λ (i : ℕ). slice_get (slice_set b.nodes n x) i ≡ Some y) q.1 f in
        let g = begins in let w = set_here b.nodes n x (live_node S) was in
        let a : S ≡ T = cc in let c : x ≡ y = cc in
        subst (λ (z : NodeModel). IsNode T z) c (subst (λ (U : State). IsNode U x) a k)
    | inr q ↦ node_among (problem_in b) (margins_of b.options) (lemma_states_in b) h.firsts fresh T y (h.each m T y e (sym (set_other b.nodes n m x q.1) ∙ f))
  ]

  each-fresh : (k : ℕ) (T : State) (y : NodeModel) → slice_get fresh k ≡ Some T → slice_get (map live_node fresh) k ≡ Some y → IsNode T y
  each-fresh k T y e f = let w = mapped fresh k T e in let c : live_node T ≡ y = cc in subst (λ (z : NodeModel). IsNode T z) c refl

  each-after : IsNode S x → (m : ℕ) (T : State) (y : NodeModel) → slice_get firsts m ≡ Some T → slice_get after m ≡ Some y → IsNode T y
  each-after k m T y e f = elim (get_cases h.firsts fresh m T e) [
    | inl e' ↦ elim (get_cases (slice_set b.nodes n x) (map live_node fresh) m y f) [
      | inl f' ↦ each-old k m T y e' f'
      | inr f' ↦ absurd (omega (arith, slice_get_within h.firsts m T e', f'.1, length-set b.nodes n x, h.count))
    ]
    | inr e' ↦ elim (get_cases (slice_set b.nodes n x) (map live_node fresh) m y f) [
      | inl f' ↦ absurd (omega (arith, slice_get_within (slice_set b.nodes n x) m y f', e'.1, length-set b.nodes n x, h.count))
      | inr f' ↦ let q : f'.0 ≡ e'.0 = omega (arith, f'.1, e'.1, length-set b.nodes n x, h.count) in
          each-fresh e'.0 T y e'.2 (subst (λ (i : ℕ). slice_get (map live_node fresh) i ≡ Some y) q f'.2)
    ]
  ]

  fits-after : ((k : ℕ) (T : State) → slice_get fresh k ≡ Some T → FitsProblem (problem_in b) T × IsTrue (covers (root_state (problem_in b)) T)) →
      (m : ℕ) (T : State) → slice_get firsts m ≡ Some T → FitsProblem (problem_in b) T × IsTrue (covers (root_state (problem_in b)) T)
  fits-after k m T e = elim (get_cases h.firsts fresh m T e) [ inl e' ↦ h.fits m T e' | inr e' ↦ k e'.0 T e'.2 ]

  module _ (extra : List ℕ) (t' : Tree) (xs' : List Standing) (now : TreeOf after n t' (n ∷ extra) xs')
      (below : (j : ℕ) → j < length b.nodes → occurrences j extra ≡ 0) (above : (k : ℕ) → k < length fresh → occurrences (length b.nodes + k) extra ≡ 1) where
    abbrev grown : Changed b.nodes after n S extra t' xs' was at_others now 0 h.tree h.numbers
    grown = changed b.nodes after n S extra t' xs' was at_others now h.is_tree

    once-after : (j : ℕ) → j < length after → occurrences j grown.numbers ≡ 1
    once-after j k = elim (leb_tells (suc j) (length b.nodes)) [
      | inl q ↦ grown.occurs j ∙ once-old (occurrences j h.numbers) (occurrences n h.numbers) (occurrences j extra) (h.once j q.1) (below j q.1)
      | inr q ↦
          let i : ℕ = j - length b.nodes in let c = length-append (slice_set b.nodes n x) (map live_node fresh) in let d = length-set b.nodes n x in let f = length-map fresh live_node in
          let e : length b.nodes + i ≡ j = omega (arith, q.1) in let a : occurrences (length b.nodes + i) extra ≡ 1 = above i (omega (arith, k, q.1, c, d, f)) in
          grown.occurs j ∙ once-new (occurrences j h.numbers) (occurrences n h.numbers) (occurrences j extra) (none_past b.nodes h.is_tree j (omega (arith, q.1))) (h.once n (slice_get_within b.nodes n (live_node S) was))
          (subst (λ (y : ℕ). occurrences y extra ≡ 1) e a)
    ]

    -- so the nodes are those of a tree again
    pub covered_after : IsNode S x → ((k : ℕ) (T : State) → slice_get fresh k ≡ Some T → FitsProblem (problem_in b) T × IsTrue (covers (root_state (problem_in b)) T)) →
        (branches : ℕ) → branches ≡ b.branches + tree_branches t' → IsCovered (with_nodes b after branches)
    covered_after k fits branches e = record {
      not_crossed = h.not_crossed;
      firsts = firsts;
      count = count-after;
      root = get_left h.firsts fresh 0 b.root h.root;
      fits = fits-after fits;
      each = each-after k;
      tree = grown.tree;
      numbers = grown.numbers;
      left = grown.left;
      is_tree = grown.is_tree;
      once = once-after;
      branches = grown.branches ∙ one-more (tree_branches h.tree) (occurrences n h.numbers) (tree_branches t') branches b.branches h.branches (h.once n (slice_get_within b.nodes n (live_node S) was)) e;
    }
