-- The clauses of a form say what the form says.
use Rattle.std.proofs.Common.{◌≡◌, ◌∙◌, ◌⊎◌, inl, inr, refl, sym, ap, ap₂, subst, ℕ, zero, suc, ◌<◌, List, [], ◌∷◌, Bool, true, false, not, ◌&&◌, ◌||◌, IsTrue, Some, arith}
use Rattle.std.specs.Prelude.{slice_get}
use Rattle.std.specs.List.{list_all, list_any}
use Rattle.std.proofs.lemmas.List.Folds.{list_all-append}
use Rattle.std.proofs.lemmas.Bool.{cases_lt}
use Rattle.dyadic.proofs.Equal.{both_true, both_pass}
use Rattle.poly_graph.specs.Form.{form_truth, all_truth, any_truth}
use Rattle.poly_graph.specs.FormGraph.{FormNode, yes_node, no_node, atom_node, bool_node, all_node, any_node, forms_in_order, form_at, picked, node_form, graph_forms}
use Rattle.poly_graph.specs.ProblemViews.{Parts}
use Rattle.poly_graph.proofs.FormGraphs.{form_node_is_its_kind}
use Rattle.clause_search.specs.declared.literal.Variable.TheVariants.{Helper}
use Rattle.clause_search.specs.declared.literal.Literal.{Literal}
use Rattle.clause_search.specs.Clauses.{Assignment, variable_truth, literal_truth, clause_truth, clauses_truth}
use Rattle.clause_search.specs.Encoding.{variable_at, literal, literals_at, pairs_at, node_clauses, clauses_at, first_clauses}
use Rattle.clause_search.proofs.Bools.{agrees, combine_all, combine_any, some_not, none_holds, or_false}

-- ---- what a node says of its children's values

abbrev pub node_value : (ℕ → Bool) → (ℕ → Bool) → (ℕ → Bool → Bool) → FormNode → Bool
node_value truth atoms bools yes_node = true
node_value truth atoms bools no_node = false
node_value truth atoms bools (atom_node j) = atoms j
node_value truth atoms bools (bool_node i v) = bools i v
node_value truth atoms bools (all_node ks) = list_all truth ks
node_value truth atoms bools (any_node ks) = list_any truth ks

abbrev pub truth_at : Parts → (ℕ → Bool) → (ℕ → Bool → Bool) → ℕ → Bool
truth_at p atoms bools k = form_truth atoms bools (form_at (graph_forms p.forms) k)

module _ (p : Parts) (atoms : ℕ → Bool) (bools : ℕ → Bool → Bool) where
  all-picked : (ks : List ℕ) → all_truth atoms bools (picked (graph_forms p.forms) ks) ≡ list_all (truth_at p atoms bools) ks
  all-picked [] = refl
  all-picked (k ∷ ks) = ap (λ b. truth_at p atoms bools k && b) (all-picked ks)

  any-picked : (ks : List ℕ) → any_truth atoms bools (picked (graph_forms p.forms) ks) ≡ list_any (truth_at p atoms bools) ks
  any-picked [] = refl
  any-picked (k ∷ ks) = ap (λ b. truth_at p atoms bools k || b) (any-picked ks)

  of-node : (n : FormNode) → form_truth atoms bools (node_form (graph_forms p.forms) n) ≡ node_value (truth_at p atoms bools) atoms bools n
  of-node yes_node = refl
  of-node no_node = refl
  of-node (atom_node j) = refl
  of-node (bool_node i v) = refl
  of-node (all_node ks) = all-picked ks
  of-node (any_node ks) = any-picked ks

  -- a node is true exactly where its kind over its children is
  pub truth_of_node : IsTrue (forms_in_order 0 p.forms) → (k : ℕ) (n : FormNode) → slice_get p.forms k ≡ Some n → truth_at p atoms bools k ≡ node_value (truth_at p atoms bools) atoms bools n
  truth_of_node o k n e = ap (form_truth atoms bools) (form_node_is_its_kind p.forms o k n e) ∙ of-node n

-- ---- what the clauses of a node say

last_or_below : (k n : ℕ) → k < suc n → (k < n) ⊎ (k ≡ n)
last_or_below k n l = elim (cases_lt k n) [ inl b ↦ inl b | inr b ↦ inr (omega arith) ]

abbrev pub value_at : Parts → Assignment → ℕ → Bool
value_at p a k = variable_truth a (variable_at p k)

module _ (p : Parts) (a : Assignment) where
  pairs-free : (first : Literal) (positive : Bool) (ks : List ℕ) → literal_truth a first ≡ true → clauses_truth a (pairs_at p first positive ks) ≡ true
  pairs-free first positive [] e = refl
  pairs-free first positive (k ∷ ks) e =
      ap₂ (λ x y. x && y) (ap (λ (b : Bool). b || (literal_truth a (literal (variable_at p k) positive) || false)) e) (pairs-free first positive ks e)

  pairs-bound : (first : Literal) (positive : Bool) (ks : List ℕ) → literal_truth a first ≡ false → clauses_truth a (pairs_at p first positive ks) ≡ list_all (λ k. literal_truth a (literal (variable_at p k) positive)) ks
  pairs-bound first positive [] e = refl
  pairs-bound first positive (k ∷ ks) e =
      let l : Bool = literal_truth a (literal (variable_at p k) positive) in
      ap₂ (λ x y. x && y) (ap (λ (b : Bool). b || (l || false)) e ∙ or_false l) (pairs-bound first positive ks e)

  literals-any : (positive : Bool) (ks : List ℕ) → clause_truth a (literals_at p positive ks) ≡ list_any (λ k. literal_truth a (literal (variable_at p k) positive)) ks
  literals-any positive [] = refl
  literals-any positive (k ∷ ks) = ap (λ (b : Bool). literal_truth a (literal (variable_at p k) positive) || b) (literals-any positive ks)

  -- the clauses of a conjunction: its helper agrees with it
  pub all_says : (k : ℕ) (ks : List ℕ) → clauses_truth a (node_clauses p k (all_node ks)) ≡ agrees (a.helpers k) (list_all (value_at p a) ks)
  all_says k ks =
      list_all-append (clause_truth a) (pairs_at p (literal (Helper k) false) true ks) ((literal (Helper k) true ∷ literals_at p false ks) ∷ [])
      ∙ combine_all (a.helpers k) (list_all (value_at p a) ks) (clauses_truth a (pairs_at p (literal (Helper k) false) true ks)) (clause_truth a (literal (Helper k) true ∷ literals_at p false ks))
      (λ h. pairs-bound (literal (Helper k) false) true ks (ap not h))
      (λ h. pairs-free (literal (Helper k) false) true ks (ap not h))
      (ap (λ (b : Bool). a.helpers k || b) (literals-any false ks ∙ some_not (value_at p a) ks))

  -- the clauses of a disjunction: its helper agrees with it
  pub any_says : (k : ℕ) (ks : List ℕ) → clauses_truth a (node_clauses p k (any_node ks)) ≡ agrees (a.helpers k) (list_any (value_at p a) ks)
  any_says k ks =
      list_all-append (clause_truth a) (pairs_at p (literal (Helper k) true) false ks) ((literal (Helper k) false ∷ literals_at p true ks) ∷ [])
      ∙ combine_any (a.helpers k) (list_any (value_at p a) ks) (clauses_truth a (pairs_at p (literal (Helper k) true) false ks)) (clause_truth a (literal (Helper k) false ∷ literals_at p true ks))
      (λ h. pairs-free (literal (Helper k) true) false ks h)
      (λ h. pairs-bound (literal (Helper k) true) false ks h ∙ none_holds (value_at p a) ks)
      (ap (λ (b : Bool). not (a.helpers k) || b) (literals-any true ks))

  -- the clauses of the first nodes are true where those of each are
  pub first_from : (n : ℕ) → ((k : ℕ) → IsTrue (clauses_truth a (clauses_at p k))) → IsTrue (clauses_truth a (first_clauses p n))
  first_from zero h = refl
  first_from (suc n) h = list_all-append (clause_truth a) (first_clauses p n) (clauses_at p n) ∙ both_pass (clauses_truth a (first_clauses p n)) (clauses_truth a (clauses_at p n)) (first_from n h) (h n)

  pub first_to : (n : ℕ) → IsTrue (clauses_truth a (first_clauses p n)) → (k : ℕ) → k < n → IsTrue (clauses_truth a (clauses_at p k))
  first_to zero h k l = absurd (omega arith)
  first_to (suc n) h k l =
      let e = both_true (clauses_truth a (first_clauses p n)) (clauses_truth a (clauses_at p n)) (sym (list_all-append (clause_truth a) (first_clauses p n) (clauses_at p n)) ∙ h) in
      elim (last_or_below k n l) [
        | inl b ↦ first_to n e.0 k b
        | inr b ↦ subst (λ (j : ℕ). IsTrue (clauses_truth a (clauses_at p j))) (sym b) e.1
      ]
