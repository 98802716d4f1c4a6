-- The trees of the nodes that wait, and the walk over them.
use Rattle.std.proofs.Common.{◌≡◌, inl, inr, ℕ, suc, ◌+◌, ◌<◌, ◌≤◌, List, [], ◌∷◌, ◌++◌, length, length-append, append_assoc, Some, refl, ap, sym, ◌∙◌, subst, arith}
use Rattle.std.specs.Prelude.{slice_get}
use Rattle.std.proofs.lemmas.List.{append-nil}
use Rattle.std.proofs.lemmas.Option.{slice_get_within}
use Rattle.cover_model.specs.State.{State}
use Rattle.cover_model.specs.Rules.{Line, open_line}
use Rattle.cover_model.specs.Derivation.{Tree, leaf, fork}
use Rattle.cover_data.specs.Runs.{tree_after}
use Rattle.cert_model.specs.Due.{Standing}
use Rattle.cover_book.specs.Model.{NodeModel, live_node, closed_node, parted_node, stuck_node}
use Rattle.cover_book.specs.Tree.{TreeOf, of_live, of_closed, of_stuck, of_parted}
use Rattle.cert_text.specs.Parts.{kids, HasNothingNext}

-- what is read off a tree and what it leaves, part by part: of each node its own, then of its parts
pub record Trace (X : Type 0) : Type 0 where
  pub of_tree : Tree → List Standing → List X
  pub own : NodeModel → List X
  pub at_live : (S : State) → of_tree (leaf open_line) (record { state = S; does = open_line } ∷ []) ≡ own (live_node S)
  pub at_closed : (steps : List Line) (l : Line) → of_tree (tree_after steps (leaf l)) [] ≡ own (closed_node steps l)
  pub at_stuck : (steps : List Line) (l : Line) (S : State) → of_tree (tree_after steps (leaf l)) (record { state = S; does = l } ∷ []) ≡ own (stuck_node steps l S)
  pub at_parted : (steps : List Line) (l : Line) (c : ℕ) (t u : Tree) (xs ys : List Standing) →
      of_tree (tree_after steps (fork l t u)) (xs ++ ys) ≡ own (parted_node steps l c) ++ (of_tree t xs ++ of_tree u ys)

module _ (X : Type 0) (T : Trace X) (nodes : List NodeModel) where
  -- the last of these nodes is taken first: what is read off their trees, and how many nodes these have
  abbrev pub Forest : List ℕ → List X → ℕ → Type 0
  Forest [] ls k = (ls ≡ []) × (k ≡ 0)
  Forest (n ∷ stack) ls k = (t : Tree) × (ns : List ℕ) × (xs : List Standing) × (ls' : List X) × (k' : ℕ) × TreeOf nodes n t ns xs × Forest stack ls' k' × (ls ≡ ls' ++ T.of_tree t xs) × (k ≡ k' + length ns)

  -- the tree that is taken next, and those behind it
  pub record Taken (n : ℕ) (stack : List ℕ) (ls : List X) (k : ℕ) : Type 0 where
    pub tree : Tree
    pub numbers : List ℕ
    pub left : List Standing
    pub is_tree : TreeOf nodes n tree numbers left
    pub rest : List X
    pub count : ℕ
    pub behind : Forest stack rest count
    pub parts : ls ≡ T.of_tree tree left ++ rest
    pub counts : k ≡ length numbers + count

  pub take_last : (stack : List ℕ) (n : ℕ) (ls : List X) (k : ℕ) → Forest (stack ++ (n ∷ [])) ls k → Taken n stack ls k
  take_last [] n ls k f = record {
    tree = f.0;
    numbers = f.1;
    left = f.2;
    is_tree = f.5;
    rest = [];
    count = 0;
    behind = (refl, refl);
    parts = f.7 ∙ ap (λ (xs : List X). xs ++ T.of_tree f.0 f.2) f.6.0 ∙ sym (append-nil (T.of_tree f.0 f.2));
    counts = omega (arith, f.8, f.6.1);
  }
  take_last (m ∷ stack) n ls k f = let r = take_last stack n f.3 f.4 f.6 in record {
    tree = r.tree;
    numbers = r.numbers;
    left = r.left;
    is_tree = r.is_tree;
    rest = r.rest ++ T.of_tree f.0 f.2;
    count = r.count + length f.1;
    behind = (f.0, f.1, f.2, r.rest, r.count, f.5, r.behind, refl, refl);
    parts = f.7 ∙ ap (λ (xs : List X). xs ++ T.of_tree f.0 f.2) r.parts ∙ append_assoc (T.of_tree r.tree r.left) r.rest (T.of_tree f.0 f.2);
    counts = omega (arith, f.8, r.counts);
  }

  pub put_last : (stack : List ℕ) (n : ℕ) (t : Tree) (ns : List ℕ) (xs : List Standing) (ls : List X) (k : ℕ) → TreeOf nodes n t ns xs → Forest stack ls k → Forest (stack ++ (n ∷ [])) (T.of_tree t xs ++ ls) (length ns + k)
  put_last [] n t ns xs ls k w f = (t, ns, xs, [], 0, w, (refl, refl), ap (λ (ys : List X). T.of_tree t xs ++ ys) f.0 ∙ append-nil (T.of_tree t xs), omega (arith, f.1))
  put_last (m ∷ stack) n t ns xs ls k w f = (
    f.0,
    f.1,
    f.2,
    T.of_tree t xs ++ f.3,
    length ns + f.4,
    f.5,
    put_last stack n t ns xs f.3 f.4 w f.6,
    ap (λ (ys : List X). T.of_tree t xs ++ ys) f.7 ∙ sym (append_assoc (T.of_tree t xs) f.3 (T.of_tree f.0 f.2)),
    omega (arith, f.8),
  )

  some-numbers : {n : ℕ} {t : Tree} {ns : List ℕ} {xs : List Standing} → TreeOf nodes n t ns xs → 0 < length ns
  some-numbers (of_live e) = omega arith
  some-numbers (of_closed e) = omega arith
  some-numbers (of_stuck e) = omega arith
  some-numbers (of_parted e f g) = omega arith

  -- where no node is to come, nothing is
  none-left : (stack : List ℕ) (ls : List X) (k : ℕ) → Forest stack ls k → k ≡ 0 → ls ≡ []
  none-left [] ls k f h = f.0
  none-left (n ∷ stack) ls k f h = absurd (omega (arith, f.8, h, some-numbers f.5))

  tree-within : {n : ℕ} {t : Tree} {ns : List ℕ} {xs : List Standing} → TreeOf nodes n t ns xs → n < length nodes
  tree-within (of_live {n = n} e) = slice_get_within nodes n _ e
  tree-within (of_closed {n = n} e) = slice_get_within nodes n _ e
  tree-within (of_stuck {n = n} e) = slice_get_within nodes n _ e
  tree-within (of_parted {n = n} e f g) = slice_get_within nodes n _ e

  -- after a node's own part
  pub record Opened (x : NodeModel) (stack : List ℕ) (ls : List X) (k : ℕ) : Type 0 where
    pub rest : List X
    pub count : ℕ
    pub behind : Forest (stack ++ kids x) rest count
    pub parts : ls ≡ T.own x ++ rest
    pub counts : k ≡ suc count

  alone : (x : NodeModel) (stack : List ℕ) (ms ls : List X) (k : ℕ) → Forest stack ls k → kids x ≡ [] → ms ≡ T.own x → Opened x stack (ms ++ ls) (1 + k)
  alone x stack ms ls k f e g = record {
    rest = ls;
    count = k;
    behind = subst (λ (ns : List ℕ). Forest ns ls k) (sym (append-nil stack) ∙ ap (λ (ns : List ℕ). stack ++ ns) (sym e)) f;
    parts = ap (λ (ys : List X). ys ++ ls) g;
    counts = omega arith;
  }

  regroup : (own xs ys ls : List X) → (own ++ (xs ++ ys)) ++ ls ≡ own ++ (xs ++ (ys ++ ls))
  regroup own xs ys ls = simp append_assoc

  parted : (steps : List Line) (l : Line) (c : ℕ) (t u : Tree) (ns ms : List ℕ) (xs ys : List Standing) (stack : List ℕ) (ls : List X) (k : ℕ) → TreeOf nodes c t ns xs → TreeOf nodes (suc c) u ms ys → Forest stack ls k →
      Opened (parted_node steps l c) stack (T.of_tree (tree_after steps (fork l t u)) (xs ++ ys) ++ ls) (length (0 ∷ (ns ++ ms)) + k)
  parted steps l c t u ns ms xs ys stack ls k f g h =
      let next : suc c ≡ c + 1 = omega arith in
      let upper : Forest (stack ++ ((c + 1) ∷ [])) (T.of_tree u ys ++ ls) (length ms + k) = put_last stack (c + 1) u ms ys ls k (subst (λ (i : ℕ). TreeOf nodes i u ms ys) next g) h in
      let lower : Forest ((stack ++ ((c + 1) ∷ [])) ++ (c ∷ [])) (T.of_tree t xs ++ (T.of_tree u ys ++ ls)) (length ns + (length ms + k)) = put_last (stack ++ ((c + 1) ∷ [])) c t ns xs (T.of_tree u ys ++ ls) (length ms + k) f upper in
      let rest : List X = T.of_tree t xs ++ (T.of_tree u ys ++ ls) in
      record {
        rest = rest;
        count = length ns + (length ms + k);
        behind = subst (λ (is : List ℕ). Forest is rest (length ns + (length ms + k))) (append_assoc stack ((c + 1) ∷ []) (c ∷ [])) lower;
        parts = ap (λ (zs : List X). zs ++ ls) (T.at_parted steps l c t u xs ys) ∙ regroup (T.own (parted_node steps l c)) (T.of_tree t xs) (T.of_tree u ys) ls;
        counts = omega (arith, length-append ns ms);
      }

  is-node : (x y : NodeModel) (n : ℕ) → slice_get nodes n ≡ Some x → slice_get nodes n ≡ Some y → x ≡ y
  is-node x y n e f = cc

  opened : {n : ℕ} {t : Tree} {ns : List ℕ} {xs : List Standing} → TreeOf nodes n t ns xs → (x : NodeModel) → slice_get nodes n ≡ Some x → (stack : List ℕ) (ls : List X) (k : ℕ) → Forest stack ls k →
      Opened x stack (T.of_tree t xs ++ ls) (length ns + k)
  opened (of_live {n = n} {S = S} e) x q stack ls k f =
      subst (λ (y : NodeModel). Opened y stack (T.of_tree (leaf open_line) (record { state = S; does = open_line } ∷ []) ++ ls) (1 + k)) (is-node (live_node S) x n e q)
      (alone (live_node S) stack _ ls k f refl (T.at_live S))
  opened (of_closed {n = n} {steps = steps} {l = l} e) x q stack ls k f =
      subst (λ (y : NodeModel). Opened y stack (T.of_tree (tree_after steps (leaf l)) [] ++ ls) (1 + k)) (is-node (closed_node steps l) x n e q)
      (alone (closed_node steps l) stack _ ls k f refl (T.at_closed steps l))
  opened (of_stuck {n = n} {steps = steps} {l = l} {S = S} e) x q stack ls k f =
      subst (λ (y : NodeModel). Opened y stack (T.of_tree (tree_after steps (leaf l)) (record { state = S; does = l } ∷ []) ++ ls) (1 + k)) (is-node (stuck_node steps l S) x n e q)
      (alone (stuck_node steps l S) stack _ ls k f refl (T.at_stuck steps l S))
  opened (of_parted {n = n} {c = c} {steps = steps} {l = l} {t = t} {u = u} {ns = ns} {ms = ms} {xs = xs} {ys = ys} e g h) x q stack ls k f =
      subst (λ (y : NodeModel). Opened y stack (T.of_tree (tree_after steps (fork l t u)) (xs ++ ys) ++ ls) (length (n ∷ (ns ++ ms)) + k)) (is-node (parted_node steps l c) x n e q)
      (parted steps l c t u ns ms xs ys stack ls k g h f)

  -- ---- the walk

  -- a part of the whole was read, and that of the nodes that wait is to come
  pub record Waits (stack : List ℕ) (i : ℕ) (whole done : List X) : Type 0 where
    pub rest : List X
    pub count : ℕ
    pub behind : Forest stack rest count
    pub parts : whole ≡ done ++ rest
    pub few : count + i ≤ length nodes

  pub begun : (t : Tree) (ns : List ℕ) (xs : List Standing) → TreeOf nodes 0 t ns xs → length ns ≤ length nodes → Waits (0 ∷ []) 0 (T.of_tree t xs) []
  begun t ns xs w h = record { rest = T.of_tree t xs; count = length ns; behind = (t, ns, xs, [], 0, w, (refl, refl), refl, omega arith); parts = refl; few = omega (arith, h) }

  ended : (stack : List ℕ) (i : ℕ) (whole done : List X) (p : Waits stack i whole done) → p.rest ≡ [] → whole ≡ done
  ended stack i whole done p e = p.parts ∙ ap (λ (ls : List X). done ++ ls) e ∙ append-nil done

  pub all_taken : (stack : List ℕ) (i : ℕ) (whole done : List X) → Waits stack i whole done → length nodes ≤ i → whole ≡ done
  all_taken stack i whole done p e = ended stack i whole done p (none-left stack p.rest p.count p.behind (omega (arith, p.few, e)))

  next-within : (stack stack' : List ℕ) (n i : ℕ) (whole done : List X) → Waits stack i whole done → stack ≡ stack' ++ (n ∷ []) → n < length nodes
  next-within stack stack' n i whole done p e = tree-within (take_last stack' n p.rest p.count (subst (λ (ns : List ℕ). Forest ns p.rest p.count) e p.behind)).is_tree

  pub none_next : (stack : List ℕ) (i : ℕ) (whole done : List X) → Waits stack i whole done → HasNothingNext nodes stack → whole ≡ done
  none_next stack i whole done p h = elim h [
    | inl e ↦ ended stack i whole done p (subst (λ (ns : List ℕ). Forest ns p.rest p.count) e p.behind).0
    | inr f ↦ absurd (omega (arith, f.3, next-within stack f.0 f.1 i whole done p f.2))
  ]

  pub walked : (stack stack' stack'' : List ℕ) (n i i' : ℕ) (whole done : List X) (x : NodeModel) → Waits stack i whole done → stack ≡ stack' ++ (n ∷ []) → slice_get nodes n ≡ Some x →
      stack'' ≡ stack' ++ kids x → i' ≡ i + 1 → Waits stack'' i' whole (done ++ T.own x)
  walked stack stack' stack'' n i i' whole done x p e q f g =
      let r = take_last stack' n p.rest p.count (subst (λ (ns : List ℕ). Forest ns p.rest p.count) e p.behind) in
      let o = opened r.is_tree x q stack' r.rest r.count r.behind in
      record {
        rest = o.rest;
        count = o.count;
        behind = subst (λ (ns : List ℕ). Forest ns o.rest o.count) (sym f) o.behind;
        parts = p.parts ∙ ap (λ (ls : List X). done ++ ls) (r.parts ∙ o.parts) ∙ sym (append_assoc done (T.own x) o.rest);
        few = omega (arith, p.few, r.counts, o.counts, g);
      }
