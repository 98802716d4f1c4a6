-- The tree of a book after one of its live nodes has got a run.
use Rattle.std.proofs.Common.{◌≡◌, inl, inr, ℕ, suc, ◌+◌, ◌*◌, ◌≤◌, List, [], ◌∷◌, ◌++◌, length, Some, refl, ap, ap₂, sym, ◌∙◌, subst, arith}
use Rattle.std.specs.Prelude.{slice_get, sum_by}
use Rattle.std.proofs.lemmas.Option.{slice_get_within}
use Rattle.std.proofs.lemmas.List.Sums.{sum_by-cons, sum_by-append}
use Rattle.cover_model.specs.State.{State}
use Rattle.cover_model.specs.Rules.{Line, open_line}
use Rattle.cover_model.specs.Derivation.{Tree, leaf, fork, tree_lines}
use Rattle.cover_model.specs.Honest.{branch_count}
use Rattle.cover_data.specs.Runs.{tree_after}
use Rattle.cert_model.specs.Due.{Standing}
use Rattle.cert_model.specs.Written.{tree_branches}
use Rattle.cover_book.specs.Model.{NodeModel, live_node, closed_node, parted_node, stuck_node}
use Rattle.cover_book.specs.Tree.{TreeOf, of_live, of_closed, of_stuck, of_parted, occurrences}
use Rattle.cover_book.proofs.Lists.{occurs_cons, occurs_append, occurs_other, occurs_here, same_or_other}

pub lines_after : (steps : List Line) (t : Tree) → tree_lines (tree_after steps t) ≡ steps ++ tree_lines t
lines_after [] t = refl
lines_after (l ∷ steps) t = ap (λ (ls : List Line). l ∷ ls) (lines_after steps t)

pub branches_after : (steps : List Line) (t : Tree) → tree_branches (tree_after steps t) ≡ sum_by branch_count steps + tree_branches t
branches_after steps t = ap (sum_by branch_count) (lines_after steps t) ∙ sum_by-append branch_count steps (tree_lines t)

pub branches_leaf : (l : Line) → tree_branches (leaf l) ≡ branch_count l
branches_leaf l = omega (arith, sum_by-cons branch_count l [])

pub branches_fork : (l : Line) (t u : Tree) → tree_branches (fork l t u) ≡ branch_count l + (tree_branches t + tree_branches u)
branches_fork l t u = sum_by-cons branch_count l (tree_lines t ++ tree_lines u) ∙ ap (λ n. branch_count l + n) (sum_by-append branch_count (tree_lines t) (tree_lines u))

-- ---- no node past the last

pub none_past : (nodes : List NodeModel) {m : ℕ} {t : Tree} {ns : List ℕ} {xs : List Standing} → TreeOf nodes m t ns xs → (j : ℕ) → length nodes ≤ j → occurrences j ns ≡ 0
none_past nodes (of_live {n = m} e) j h = let k = slice_get_within nodes m _ e in occurs_other j m [] (λ q. absurd (omega (arith, q, k, h)))
none_past nodes (of_closed {n = m} e) j h = let k = slice_get_within nodes m _ e in occurs_other j m [] (λ q. absurd (omega (arith, q, k, h)))
none_past nodes (of_stuck {n = m} e) j h = let k = slice_get_within nodes m _ e in occurs_other j m [] (λ q. absurd (omega (arith, q, k, h)))
none_past nodes (of_parted {n = m} {ns = ns} {ms = ms} e f g) j h = let k = slice_get_within nodes m _ e in
    occurs_other j m (ns ++ ms) (λ q. absurd (omega (arith, q, k, h))) ∙ occurs_append j ns ms ∙ omega (arith, none_past nodes f j h, none_past nodes g j h)

-- ---- sums

mixed : (d a a' x b b' y w e : ℕ) → a' ≡ a + x * e → b' ≡ b + y * e → w ≡ x + y → d + (a' + b') ≡ (d + (a + b)) + w * e
mixed d a a' x b b' y w e h k g = rw g (omega (arith, h, k))

unmixed : (a w e : ℕ) → w ≡ 0 → a ≡ a + w * e
unmixed a w e h = rw h (omega arith)

single : (a w e : ℕ) → w ≡ 1 → a + e ≡ a + w * e
single a w e h = rw h (omega arith)

-- live node n has got a tree of its own number and of others; the other nodes are as they were
module _ (nodes nodes' : List NodeModel) (n : ℕ) (S : State) (extra : List ℕ) (t' : Tree) (xs' : List Standing) (was : slice_get nodes n ≡ Some (live_node S))
    (others : (m : ℕ) (x : NodeModel) → (m ≡ n → ⊥) → slice_get nodes m ≡ Some x → slice_get nodes' m ≡ Some x) (now : TreeOf nodes' n t' (n ∷ extra) xs') where
  pub record Changed (m : ℕ) (t : Tree) (ns : List ℕ) : Type 0 where
    pub tree : Tree
    pub numbers : List ℕ
    pub left : List Standing
    pub is_tree : TreeOf nodes' m tree numbers left
    pub occurs : (j : ℕ) → occurrences j numbers ≡ occurrences j ns + occurrences n ns * occurrences j extra
    pub branches : tree_branches tree ≡ tree_branches t + occurrences n ns * tree_branches t'

  same : (m : ℕ) (t : Tree) (xs : List Standing) → (m ≡ n → ⊥) → TreeOf nodes' m t (m ∷ []) xs → Changed m t (m ∷ [])
  same m t xs h f = record {
    tree = t;
    numbers = m ∷ [];
    left = xs;
    is_tree = f;
    occurs = λ j. unmixed (occurrences j (m ∷ [])) (occurrences n (m ∷ [])) (occurrences j extra) (occurs_other n m [] h);
    branches = unmixed (tree_branches t) (occurrences n (m ∷ [])) (tree_branches t') (occurs_other n m [] h);
  }

  grown : Changed n (leaf open_line) (n ∷ [])
  grown = record {
    tree = t';
    numbers = n ∷ extra;
    left = xs';
    is_tree = now;
    occurs = λ j. occurs_cons j n extra ∙ omega (arith, occurs_cons j n []) ∙ single (occurrences j (n ∷ [])) (occurrences n (n ∷ [])) (occurrences j extra) (occurs_here n []);
    branches = let z : tree_branches t' ≡ 0 + tree_branches t' = omega arith in z ∙ single 0 (occurrences n (n ∷ [])) (tree_branches t') (occurs_here n []) ∙ ap (λ k. k + occurrences n (n ∷ []) * tree_branches t') (sym (branches_leaf open_line));
  }

  both : (m c : ℕ) (steps : List Line) (l : Line) (t u : Tree) (ns ms : List ℕ) → (m ≡ n → ⊥) → slice_get nodes' m ≡ Some (parted_node steps l c) → Changed c t ns → Changed (suc c) u ms →
      Changed m (tree_after steps (fork l t u)) (m ∷ (ns ++ ms))
  both m c steps l t u ns ms h e a b = record {
    tree = tree_after steps (fork l a.tree b.tree);
    numbers = m ∷ (a.numbers ++ b.numbers);
    left = a.left ++ b.left;
    is_tree = of_parted e a.is_tree b.is_tree;
    occurs = λ j.
        let d = occurrences j (m ∷ []) in
        occurs_cons j m (a.numbers ++ b.numbers) ∙ ap₂ (λ x y. x + y) refl (occurs_append j a.numbers b.numbers)
        ∙ mixed _ (occurrences j ns) (occurrences j a.numbers) (occurrences n ns) (occurrences j ms) (occurrences j b.numbers) (occurrences n ms) (occurrences n (m ∷ (ns ++ ms))) (occurrences j extra)
        (a.occurs j) (b.occurs j) (occurs_other n m (ns ++ ms) h ∙ occurs_append n ns ms)
        ∙ ap (λ k. k + occurrences n (m ∷ (ns ++ ms)) * occurrences j extra) (ap₂ (λ x y. x + y) refl (sym (occurs_append j ns ms)) ∙ sym (occurs_cons j m (ns ++ ms)));
    branches = branches_after steps (fork l a.tree b.tree) ∙ ap (λ k. sum_by branch_count steps + k) (branches_fork l a.tree b.tree)
        ∙ omega arith
        ∙ mixed (sum_by branch_count steps + branch_count l) (tree_branches t) (tree_branches a.tree) (occurrences n ns) (tree_branches u) (tree_branches b.tree) (occurrences n ms) (occurrences n (m ∷ (ns ++ ms))) (tree_branches t')
        a.branches b.branches (occurs_other n m (ns ++ ms) h ∙ occurs_append n ns ms)
        ∙ ap (λ k. k + occurrences n (m ∷ (ns ++ ms)) * tree_branches t') (omega arith ∙ ap (λ k. sum_by branch_count steps + k) (sym (branches_fork l t u)) ∙ sym (branches_after steps (fork l t u)));
  }

  pub changed : {m : ℕ} {t : Tree} {ns : List ℕ} {xs : List Standing} → TreeOf nodes m t ns xs → Changed m t ns
  changed (of_live {n = m} {S = T} e) = elim (same_or_other m n) [
    | inl q ↦ subst (λ (k : ℕ). Changed k (leaf open_line) (k ∷ [])) (sym q.0) grown
    | inr q ↦ same m (leaf open_line) _ q.0 (of_live (others m (live_node T) q.0 e))
  ]
  changed (of_closed {n = m} {steps = steps} {l = l} e) = let h : m ≡ n → ⊥ = λ q. let w : slice_get nodes n ≡ Some (closed_node steps l) = subst (λ (k : ℕ). slice_get nodes k ≡ Some (closed_node steps l)) q e in cc in
      same m (tree_after steps (leaf l)) [] h (of_closed (others m (closed_node steps l) h e))
  changed (of_stuck {n = m} {steps = steps} {l = l} {S = T} e) = let h : m ≡ n → ⊥ = λ q. let w : slice_get nodes n ≡ Some (stuck_node steps l T) = subst (λ (k : ℕ). slice_get nodes k ≡ Some (stuck_node steps l T)) q e in cc in
      same m (tree_after steps (leaf l)) _ h (of_stuck (others m (stuck_node steps l T) h e))
  changed (of_parted {n = m} {c = c} {steps = steps} {l = l} {t = t} {u = u} {ns = ns} {ms = ms} e f g) = let h : m ≡ n → ⊥ = λ q. let w : slice_get nodes n ≡ Some (parted_node steps l c) = subst (λ (k : ℕ). slice_get nodes k ≡ Some (parted_node steps l c)) q e in cc in
      both m c steps l t u ns ms h (others m (parted_node steps l c) h e) (changed f) (changed g)
