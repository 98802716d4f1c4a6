-- The truth of a shared form, node by node.
use Rattle.std.proofs.Common.{◌≡◌, ◌≢◌, ℕ, zero, suc, ◌+◌, ◌<◌, ◌≤◌, length, set, Some, subst, arith, below_more, get_or-set_other, get_or-set_same, List, [], ◌∷◌, Bool, false, cond, ◌&&◌, ◌||◌, refl, ap, ap₂, sym, ◌∙◌, IsTrue, nat_lt, ltb→lt}
use Rattle.std.proofs.lemmas.Bool.{lt-ltb}
use Rattle.std.specs.List.{list_all, list_any}
use Rattle.std.specs.Bool.{passes}
use Rattle.std.specs.Prelude.{slice_get}
use Rattle.dyadic.specs.Point.{Sort}
use Rattle.dyadic.proofs.Equal.{both_true, both_pass}
use Rattle.poly_graph.specs.Form.{Form, Forms, yes_form, no_form, atom_is, bool_is, all_form, any_form, no_forms, more_forms, form_truth, all_truth, any_truth}
use Rattle.poly_graph.specs.FormGraph.{FormNode, yes_node, no_node, atom_node, bool_node, all_node, any_node, form_comes_after, forms_in_order, form_at, picked, node_form, graph_forms}
use Rattle.poly_graph.proofs.FormGraphs.{form_node_is_its_kind}
use Rattle.poly_graph.specs.Problem.{IsForm, AreForms}
use Rattle.form_truth.specs.Truth.{is_true, node_truth}

-- a form's truth rests on the atoms that it names
mutual
  pub same_truth : (sorts : List Sort) (n : ℕ) (a b : ℕ → Bool) (c : ℕ → Bool → Bool) → ((j : ℕ) → j < n → a j ≡ b j) → (φ : Form ℕ) → IsForm sorts n φ → form_truth a c φ ≡ form_truth b c φ
  same_truth sorts n a b c f yes_form h = refl
  same_truth sorts n a b c f no_form h = refl
  same_truth sorts n a b c f (atom_is j) h = f j h
  same_truth sorts n a b c f (bool_is axis v) h = refl
  same_truth sorts n a b c f (all_form fs) h = all-same sorts n a b c f fs h
  same_truth sorts n a b c f (any_form fs) h = any-same sorts n a b c f fs h

  all-same : (sorts : List Sort) (n : ℕ) (a b : ℕ → Bool) (c : ℕ → Bool → Bool) → ((j : ℕ) → j < n → a j ≡ b j) → (fs : Forms ℕ) → AreForms sorts n fs → all_truth a c fs ≡ all_truth b c fs
  all-same sorts n a b c f no_forms h = refl
  all-same sorts n a b c f (more_forms φ fs) h = ap₂ (λ x y. x && y) (same_truth sorts n a b c f φ h.0) (all-same sorts n a b c f fs h.1)

  any-same : (sorts : List Sort) (n : ℕ) (a b : ℕ → Bool) (c : ℕ → Bool → Bool) → ((j : ℕ) → j < n → a j ≡ b j) → (fs : Forms ℕ) → AreForms sorts n fs → any_truth a c fs ≡ any_truth b c fs
  any-same sorts n a b c f no_forms h = refl
  any-same sorts n a b c f (more_forms φ fs) h = ap₂ (λ x y. x || y) (same_truth sorts n a b c f φ h.0) (any-same sorts n a b c f fs h.1)

module _ (atoms : ℕ → Bool) (bools : ℕ → Bool → Bool) (truths : List Bool) (forms : List (Form ℕ)) (k : ℕ) (before : (i : ℕ) → i < k → is_true truths i ≡ form_truth atoms bools (form_at forms i)) where
  all-picked : (ks : List ℕ) → IsTrue (list_all (λ i. nat_lt i k) ks) → list_all (is_true truths) ks ≡ all_truth atoms bools (picked forms ks)
  all-picked [] h = refl
  all-picked (j ∷ ks) h = let e = both_true (nat_lt j k) (list_all (λ i. nat_lt i k) ks) h in ap₂ (λ x y. x && y) (before j (ltb→lt j k (passes _ e.0))) (all-picked ks e.1)

  any-picked : (ks : List ℕ) → IsTrue (list_all (λ i. nat_lt i k) ks) → list_any (is_true truths) ks ≡ any_truth atoms bools (picked forms ks)
  any-picked [] h = refl
  any-picked (j ∷ ks) h = let e = both_true (nat_lt j k) (list_all (λ i. nat_lt i k) ks) h in ap₂ (λ x y. x || y) (before j (ltb→lt j k (passes _ e.0))) (any-picked ks e.1)

  -- a node's truth follows from that of the nodes before it
  pub truth_of_node : (n : FormNode) → IsTrue (form_comes_after k n) → node_truth atoms bools truths n ≡ form_truth atoms bools (node_form forms n)
  truth_of_node yes_node h = refl
  truth_of_node no_node h = refl
  truth_of_node (atom_node j) h = refl
  truth_of_node (bool_node axis v) h = refl
  truth_of_node (all_node ks) h = all-picked ks h
  truth_of_node (any_node ks) h = any-picked ks h

-- ---- order

numbers-later : (j k : ℕ) (ks : List ℕ) → j ≤ k → IsTrue (list_all (λ i. nat_lt i j) ks) → IsTrue (list_all (λ i. nat_lt i k) ks)
numbers-later j k [] l h = refl
numbers-later j k (i ∷ ks) l h = let e = both_true (nat_lt i j) (list_all (λ i. nat_lt i j) ks) h in
    both_pass (nat_lt i k) (list_all (λ i. nat_lt i k) ks) (lt-ltb i k (let b = ltb→lt i j (passes _ e.0) in omega arith)) (numbers-later j k ks l e.1)

pub form_comes_later : (j k : ℕ) (n : FormNode) → j ≤ k → IsTrue (form_comes_after j n) → IsTrue (form_comes_after k n)
form_comes_later j k yes_node l h = refl
form_comes_later j k no_node l h = refl
form_comes_later j k (atom_node i) l h = refl
form_comes_later j k (bool_node axis v) l h = refl
form_comes_later j k (all_node ks) l h = numbers-later j k ks l h
form_comes_later j k (any_node ks) l h = numbers-later j k ks l h

form-order-at : (k : ℕ) (nodes : List FormNode) → IsTrue (forms_in_order k nodes) → (i : ℕ) (p : FormNode) → slice_get nodes i ≡ Some p → IsTrue (form_comes_after (k + i) p)
form-order-at k [] o i p e = cc
form-order-at k (n ∷ nodes) o zero p e = let start : k ≡ k + 0 = omega arith in let same : n ≡ p = cc in
    subst (λ (j : ℕ). IsTrue (form_comes_after j p)) start (subst (λ (m : FormNode). IsTrue (form_comes_after k m)) same (both_true (form_comes_after k n) (forms_in_order (suc k) nodes) o).0)
form-order-at k (n ∷ nodes) o (suc i) p e = let place : suc k + i ≡ k + suc i = omega arith in
    subst (λ (j : ℕ). IsTrue (form_comes_after j p)) place (form-order-at (suc k) nodes (both_true (form_comes_after k n) (forms_in_order (suc k) nodes) o).1 i p e)

pub form_comes_at : (nodes : List FormNode) → IsTrue (forms_in_order 0 nodes) → (k : ℕ) (p : FormNode) → slice_get nodes k ≡ Some p → IsTrue (form_comes_after k p)
form_comes_at nodes o k p e = let place : 0 + k ≡ k = omega arith in subst (λ (j : ℕ). IsTrue (form_comes_after j p)) place (form-order-at 0 nodes o k p e)

-- one more truth
pub truths_next : (atoms : ℕ → Bool) (bools : ℕ → Bool → Bool) (nodes : List FormNode) → IsTrue (forms_in_order 0 nodes) → (truths : List Bool) (n : ℕ) (node : FormNode) (b : Bool) → slice_get nodes n ≡ Some node → n < length truths →
    b ≡ node_truth atoms bools truths node → ((k : ℕ) → k < n → is_true truths k ≡ form_truth atoms bools (form_at (graph_forms nodes) k)) →
    (k : ℕ) → k < n + 1 → is_true (set truths n b) k ≡ form_truth atoms bools (form_at (graph_forms nodes) k)
truths_next atoms bools nodes o truths n node b e l f before = below_more _ _
    (λ k h. let other : k ≢ n = omega arith in get_or-set_other truths n k b false other ∙ before k h)
    (get_or-set_same truths n b false l ∙ f ∙ truth_of_node atoms bools truths (graph_forms nodes) n before node (form_comes_at nodes o n node e)
    ∙ ap (form_truth atoms bools) (sym (form_node_is_its_kind nodes o n node e)))

-- atoms that there are have their own test
pub test_within : (n j : ℕ) (b : Bool) → j < n → cond (nat_lt j n) b false ≡ b
test_within n j b h = ap (λ (t : Bool). cond t b false) (lt-ltb j n h)
