-- More lemmas change nothing of what a rule leaves.
use Rattle.std.proofs.Common.{◌≡◌, ℕ, zero, suc, List, [], ◌∷◌, ◌++◌, Bool, true, false, ◌&&◌, cond, Option, Some, None, IsTrue, true≢false, refl, ap, ap₂, sym, ◌∙◌, subst}
use Rattle.poly_graph.specs.Problem.{Problem}
use Rattle.cover_model.specs.State.{State, Loosenings, undecided, with_yes}
use Rattle.cover_model.specs.Rules.{Line, narrow_by, end_by, mark_by, branch_by, stay_by, void_by, by_squares, false_form, by_lemma, Marking, unit_atom, ban_atom, make_false, Left, closed, one, two, stays, rule, when, can_mark, marked, lemma_covers}
use Rattle.cover_model.specs.Derivation.{Tree, Lawful, at_closed, at_left, at_step, at_fork}
use Rattle.cert_model.specs.Due.{Standing}
use Rattle.cert_model.specs.Written.{leaf_standing, step_standing, fork_standing, left_standing, tree_standing}

-- where the one leaves something, the other leaves the same
abbrev SameIfSome : Option Left → Option Left → Type 0
SameIfSome None y = Unit {0}
SameIfSome (Some x) y = y ≡ Some x

same-left : (o : Option Left) → SameIfSome o o
same-left None = tt
same-left (Some x) = refl

along : (o u : Option Left) → SameIfSome o u → (x : Left) → o ≡ Some x → u ≡ Some x
along o u h x e = subst (λ (w : Option Left). SameIfSome w u) e h

cond-more : (t u : Bool) (o w : Option Left) → (IsTrue t → IsTrue u) → w ≡ o → SameIfSome (cond t o None) (cond u w None)
cond-more true u o w h e = subst (λ (x : Option Left). SameIfSome o x) (sym e ∙ ap (λ (b : Bool). cond b w None) (sym (h refl))) (same-left o)
cond-more false u o w h e = tt

-- ---- more lemmas

covers-more : (lemmas more : List State) (i : ℕ) (S : State) → IsTrue (lemma_covers lemmas i S) → IsTrue (lemma_covers (lemmas ++ more) i S)
covers-more [] more i S h = cc
covers-more (L ∷ lemmas) more zero S h = h
covers-more (L ∷ lemmas) more (suc i) S h = covers-more lemmas more i S h

when-more : (t u : Bool) (x : Left) → (IsTrue t → IsTrue u) → SameIfSome (when t x) (when u x)
when-more true u x h = ap (λ (w : Bool). when w x) (h refl)
when-more false u x h = tt

both-more : (a t u : Bool) → (IsTrue t → IsTrue u) → IsTrue (a && t) → IsTrue (a && u)
both-more true t u h k = h k
both-more false t u h k = absurd (true≢false (sym k))

module _ (p : Problem) (s : Loosenings) where
  marks-more : (lemmas more : List State) (S : State) (m : Marking) → IsTrue (can_mark p s lemmas S m) → IsTrue (can_mark p s (lemmas ++ more) S m)
  marks-more lemmas more S (unit_atom j) h = h
  marks-more lemmas more S (ban_atom j i) h =
      both-more (undecided S j) (lemma_covers lemmas i (with_yes S j)) (lemma_covers (lemmas ++ more) i (with_yes S j)) (covers-more lemmas more i (with_yes S j)) h

  lemmas-same : (lemmas more : List State) (S : State) (l : Line) → SameIfSome (rule p s lemmas S l) (rule p s (lemmas ++ more) S l)
  lemmas-same lemmas more S (mark_by m) = when-more (can_mark p s lemmas S m) (can_mark p s (lemmas ++ more) S m) (one (marked S m)) (marks-more lemmas more S m)
  lemmas-same lemmas more S (end_by (by_lemma i)) = when-more (lemma_covers lemmas i S) (lemma_covers (lemmas ++ more) i S) closed (covers-more lemmas more i S)
  lemmas-same lemmas more S (end_by (void_by n)) = same-left (rule p s lemmas S (end_by (void_by n)))
  lemmas-same lemmas more S (end_by (by_squares ms bs)) = same-left (rule p s lemmas S (end_by (by_squares ms bs)))
  lemmas-same lemmas more S (end_by false_form) = same-left (rule p s lemmas S make_false)
  lemmas-same lemmas more S (narrow_by n) = same-left (rule p s lemmas S (narrow_by n))
  lemmas-same lemmas more S (branch_by b) = same-left (rule p s lemmas S (branch_by b))
  lemmas-same lemmas more S (stay_by t) = same-left (rule p s lemmas S (stay_by t))

  -- what a rule leaves it leaves with more lemmas
  pub rule_with_more : (lemmas more : List State) (S : State) (l : Line) (x : Left) → rule p s lemmas S l ≡ Some x → rule p s (lemmas ++ more) S l ≡ Some x
  rule_with_more lemmas more S l x e = along (rule p s lemmas S l) (rule p s (lemmas ++ more) S l) (lemmas-same lemmas more S l) x e

  -- ---- a lawful tree

  module _ (lemmas more : List State) where
    lawful-more : {S : State} {t : Tree} {rest : List State} → Lawful p s lemmas S t rest → Lawful p s (lemmas ++ more) S t rest
    lawful-more (at_closed {S = S} {l = l} e) = at_closed (rule_with_more lemmas more S l closed e)
    lawful-more (at_left {S = S} {l = l} e) = at_left (rule_with_more lemmas more S l stays e)
    lawful-more (at_step {S = S} {S' = S'} {l = l} e r) = at_step (rule_with_more lemmas more S l (one S') e) (lawful-more r)
    lawful-more (at_fork {S = S} {S' = S'} {S'' = S''} {l = l} e r r') = at_fork (rule_with_more lemmas more S l (two S' S'') e) (lawful-more r) (lawful-more r')

    left-more : {S : State} {t : Tree} {rest : List State} → Lawful p s lemmas S t rest → left_standing p s (lemmas ++ more) S t ≡ left_standing p s lemmas S t
    left-more (at_closed {S = S} {l = l} e) = ap (leaf_standing S l) (rule_with_more lemmas more S l closed e ∙ sym e)
    left-more (at_left {S = S} {l = l} e) = ap (leaf_standing S l) (rule_with_more lemmas more S l stays e ∙ sym e)
    left-more (at_step {S = S} {S' = S'} {l = l} {t = t} e r) =
        ap (λ (o : Option Left). step_standing o (λ X. left_standing p s (lemmas ++ more) X t)) (rule_with_more lemmas more S l (one S') e)
        ∙ left-more r ∙ ap (λ (o : Option Left). step_standing o (λ X. left_standing p s lemmas X t)) (sym e)
    left-more (at_fork {S = S} {S' = S'} {S'' = S''} {l = l} {t = t} {u = u} e r r') =
        ap (λ (o : Option Left). fork_standing o (λ X. left_standing p s (lemmas ++ more) X t) (λ X. left_standing p s (lemmas ++ more) X u)) (rule_with_more lemmas more S l (two S' S'') e)
        ∙ ap₂ (λ (xs : List Standing) (ys : List Standing). xs ++ ys) (left-more r) (left-more r')
        ∙ ap (λ (o : Option Left). fork_standing o (λ X. left_standing p s lemmas X t) (λ X. left_standing p s lemmas X u)) (sym e)

    tree-more : {S : State} {t : Tree} {rest : List State} → Lawful p s lemmas S t rest → tree_standing p s (lemmas ++ more) S t ≡ tree_standing p s lemmas S t
    tree-more (at_closed e) = refl
    tree-more (at_left e) = refl
    tree-more (at_step {S = S} {S' = S'} {l = l} {t = t} e r) = ap (λ (xs : List Standing). record { state = S; does = l } ∷ xs)
        (ap (λ (o : Option Left). step_standing o (λ X. tree_standing p s (lemmas ++ more) X t)) (rule_with_more lemmas more S l (one S') e)
        ∙ tree-more r ∙ ap (λ (o : Option Left). step_standing o (λ X. tree_standing p s lemmas X t)) (sym e))
    tree-more (at_fork {S = S} {S' = S'} {S'' = S''} {l = l} {t = t} {u = u} e r r') = ap (λ (xs : List Standing). record { state = S; does = l } ∷ xs)
        (ap (λ (o : Option Left). fork_standing o (λ X. tree_standing p s (lemmas ++ more) X t) (λ X. tree_standing p s (lemmas ++ more) X u)) (rule_with_more lemmas more S l (two S' S'') e)
        ∙ ap₂ (λ (xs : List Standing) (ys : List Standing). xs ++ ys) (tree-more r) (tree-more r')
        ∙ ap (λ (o : Option Left). fork_standing o (λ X. tree_standing p s lemmas X t) (λ X. tree_standing p s lemmas X u)) (sym e))

    pub lawful_with_more : {S : State} {t : Tree} {rest : List State} → Lawful p s lemmas S t rest →
        Lawful p s (lemmas ++ more) S t rest
        × (left_standing p s (lemmas ++ more) S t ≡ left_standing p s lemmas S t)
        × (tree_standing p s (lemmas ++ more) S t ≡ tree_standing p s lemmas S t)
    lawful_with_more r = (lawful-more r, left-more r, tree-more r)
