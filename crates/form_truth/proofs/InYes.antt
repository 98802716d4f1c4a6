-- The conjuncts of a shared form, node by node.
use Rattle.std.proofs.Common.{◌≡◌, ◌≢◌, ℕ, ◌+◌, ◌<◌, length, set, Some, arith, below_more, get_or-set_other, get_or-set_same, List, [], ◌∷◌, ◌++◌, Bool, true, false, ◌&&◌, refl, ap, ap₂, sym, ◌∙◌, IsTrue, nat_lt, ltb→lt}
use Rattle.std.specs.List.{list_all}
use Rattle.std.specs.Bool.{passes}
use Rattle.std.specs.Prelude.{slice_get}
use Rattle.dyadic.proofs.Equal.{both_true}
use Rattle.poly_graph.specs.Form.{Form}
use Rattle.poly_graph.specs.FormGraph.{FormNode, yes_node, no_node, atom_node, bool_node, all_node, any_node, form_comes_after, forms_in_order, form_at, picked, node_form, graph_forms}
use Rattle.poly_graph.proofs.FormGraphs.{form_node_is_its_kind}
use Rattle.cover_model.specs.State.{State, in_yes}
use Rattle.cover_model.specs.Honest.{all_in_yes, conjuncts, conjuncts_of}
use Rattle.form_truth.specs.Truth.{is_true}
use Rattle.form_truth.specs.Conjuncts.{node_in_yes}
use Rattle.form_truth.proofs.FormTruth.{form_comes_at}

and-through : (a b c : Bool) → (a && (b && c)) ≡ ((a && b) && c)
and-through true b c = refl
and-through false b c = refl

and-last : (b : Bool) → b ≡ (b && true)
and-last true = refl
and-last false = refl

module _ (S : State) where
  all-append : (xs ys : List ℕ) → all_in_yes S (xs ++ ys) ≡ (all_in_yes S xs && all_in_yes S ys)
  all-append [] ys = refl
  all-append (x ∷ xs) ys = ap (λ b. in_yes S x && b) (all-append xs ys) ∙ and-through (in_yes S x) (all_in_yes S xs) (all_in_yes S ys)

  module _ (truths : List Bool) (forms : List (Form ℕ)) (k : ℕ) (before : (i : ℕ) → i < k → is_true truths i ≡ all_in_yes S (conjuncts (form_at forms i))) where
    all-picked : (ks : List ℕ) → IsTrue (list_all (λ i. nat_lt i k) ks) → list_all (is_true truths) ks ≡ all_in_yes S (conjuncts_of (picked forms ks))
    all-picked [] h = refl
    all-picked (j ∷ ks) h = let e = both_true (nat_lt j k) (list_all (λ i. nat_lt i k) ks) h in
        ap₂ (λ x y. x && y) (before j (ltb→lt j k (passes _ e.0))) (all-picked ks e.1) ∙ sym (all-append (conjuncts (form_at forms j)) (conjuncts_of (picked forms ks)))

    -- a node's conjuncts follow from those of the nodes before it
    in-yes-of-node : (n : FormNode) → IsTrue (form_comes_after k n) → node_in_yes S.marks truths n ≡ all_in_yes S (conjuncts (node_form forms n))
    in-yes-of-node yes_node h = refl
    in-yes-of-node no_node h = refl
    in-yes-of-node (atom_node j) h = and-last (in_yes S j)
    in-yes-of-node (bool_node axis v) h = refl
    in-yes-of-node (all_node ks) h = all-picked ks h
    in-yes-of-node (any_node ks) h = refl

  -- one more node
  pub in_yes_next : (nodes : List FormNode) → IsTrue (forms_in_order 0 nodes) → (truths : List Bool) (n : ℕ) (node : FormNode) (b : Bool) → slice_get nodes n ≡ Some node → n < length truths →
      b ≡ node_in_yes S.marks truths node → ((k : ℕ) → k < n → is_true truths k ≡ all_in_yes S (conjuncts (form_at (graph_forms nodes) k))) →
      (k : ℕ) → k < n + 1 → is_true (set truths n b) k ≡ all_in_yes S (conjuncts (form_at (graph_forms nodes) k))
  in_yes_next nodes o truths n node b e l f before = below_more _ _
      (λ k h. let other : k ≢ n = omega arith in get_or-set_other truths n k b false other ∙ before k h)
      (get_or-set_same truths n b false l ∙ f ∙ in-yes-of-node truths (graph_forms nodes) n before node (form_comes_at nodes o n node e)
      ∙ ap (λ (φ : Form ℕ). all_in_yes S (conjuncts φ)) (sym (form_node_is_its_kind nodes o n node e)))
