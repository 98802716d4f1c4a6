-- A form is true exactly where its clauses have a model.
use Rattle.std.proofs.Common.{◌≡◌, ◌∙◌, refl, sym, ap, ap₂, subst, ℕ, zero, suc, ◌<◌, ◌≤◌, List, [], ◌∷◌, length, Bool, true, false, not, ◌&&◌, ◌||◌, cond, IsTrue, Option, Some, None, nat_lt, get_or, ltb→lt, arith}
use Rattle.std.specs.Prelude.{slice_get, ◌↔◌}
use Rattle.std.specs.List.{list_all, list_any}
use Rattle.std.specs.Bool.{passes}
use Rattle.std.proofs.lemmas.List.Folds.{list_all-append}
use Rattle.std.proofs.lemmas.Bool.{lt-ltb}
use Rattle.std.proofs.lemmas.Option.{slice_get_within, slice_get-get_or}
use Rattle.dyadic.proofs.Equal.{both_true, both_pass}
use Rattle.poly_graph.specs.Form.{form_truth}
use Rattle.poly_graph.specs.FormGraph.{FormNode, yes_node, no_node, atom_node, bool_node, all_node, any_node, forms_in_order, form_at, picked, node_form, graph_forms}
use Rattle.poly_graph.specs.Problem.{IsForm, AreForms, sorts_of_axes}
use Rattle.poly_graph.specs.ProblemViews.{Parts, problem_of, IsWhole}
use Rattle.poly_graph.proofs.FormGraphs.{form_node_is_its_kind}
use Rattle.clause_search.specs.declared.literal.Variable.{Variable}
use Rattle.clause_search.specs.declared.literal.Variable.TheVariants.{Atom, BoolIs, Helper}
use Rattle.clause_search.specs.Clauses.{Assignment, variable_truth, clause_truth, clauses_truth}
use Rattle.clause_search.specs.Encoding.{is_bool_axis, variable_in, variable_at, literal, node_clauses, clauses_in, first_clauses, encoding}
use Rattle.clause_search.proofs.Bools.{agree_equal, equal_agree, single_true, single_false}
use Rattle.clause_search.proofs.Truth.{node_value, truth_at, truth_of_node, value_at, all_says, any_says, first_from, first_to}
use Rattle.clause_search.proofs.Sorts.{sort_tests}
use Rattle.clause_search.proofs.Order.{after_children}

-- ---- from the form to its clauses: each helper is as its node

module _ (p : Parts) (atoms : ℕ → Bool) (bools : ℕ → Bool → Bool) (ordered : IsTrue (forms_in_order 0 p.forms)) where
  abbrev pub as_nodes : Assignment
  as_nodes = record { atoms = atoms; bools = bools; helpers = truth_at p atoms bools }

  value-cond : (b : Bool) (x v : Bool) (y z : Variable) → variable_truth as_nodes y ≡ v → variable_truth as_nodes z ≡ v → variable_truth as_nodes (cond b y z) ≡ v
  value-cond true x v y z e f = e
  value-cond false x v y z e f = f

  value-in : (k : ℕ) (o : Option FormNode) → slice_get p.forms k ≡ o → variable_truth as_nodes (variable_in p k o) ≡ truth_at p atoms bools k
  value-in k None e = refl
  value-in k (Some yes_node) e = refl
  value-in k (Some no_node) e = refl
  value-in k (Some (all_node ks)) e = refl
  value-in k (Some (any_node ks)) e = refl
  value-in k (Some (atom_node j)) e = value-cond (nat_lt j (length p.atoms)) true (truth_at p atoms bools k) (Atom j) (Helper k) (sym (truth_of_node p atoms bools ordered k (atom_node j) e)) refl
  value-in k (Some (bool_node i v)) e = value-cond (is_bool_axis p.axes i) true (truth_at p atoms bools k) (BoolIs i v) (Helper k) (sym (truth_of_node p atoms bools ordered k (bool_node i v) e)) refl

  pub value_same : (k : ℕ) → value_at p as_nodes k ≡ truth_at p atoms bools k
  value_same k = value-in k (slice_get p.forms k) refl

  same-all : (ks : List ℕ) → list_all (truth_at p atoms bools) ks ≡ list_all (value_at p as_nodes) ks
  same-all [] = refl
  same-all (k ∷ ks) = ap₂ (λ x y. x && y) (sym (value_same k)) (same-all ks)

  same-any : (ks : List ℕ) → list_any (truth_at p atoms bools) ks ≡ list_any (value_at p as_nodes) ks
  same-any [] = refl
  same-any (k ∷ ks) = ap₂ (λ x y. x || y) (sym (value_same k)) (same-any ks)

  holds-in : (k : ℕ) (o : Option FormNode) → slice_get p.forms k ≡ o → IsTrue (clauses_truth as_nodes (clauses_in p k o))
  holds-in k None e = refl
  holds-in k (Some yes_node) e = ap (λ (b : Bool). (b || false) && true) (truth_of_node p atoms bools ordered k yes_node e)
  holds-in k (Some no_node) e = ap (λ (b : Bool). (not b || false) && true) (truth_of_node p atoms bools ordered k no_node e)
  holds-in k (Some (atom_node j)) e = refl
  holds-in k (Some (bool_node i v)) e = refl
  holds-in k (Some (all_node ks)) e = all_says p as_nodes k ks ∙ equal_agree (truth_at p atoms bools k) (list_all (value_at p as_nodes) ks) (truth_of_node p atoms bools ordered k (all_node ks) e ∙ same-all ks)
  holds-in k (Some (any_node ks)) e = any_says p as_nodes k ks ∙ equal_agree (truth_at p atoms bools k) (list_any (value_at p as_nodes) ks) (truth_of_node p atoms bools ordered k (any_node ks) e ∙ same-any ks)

  pub to_clauses : IsTrue (truth_at p atoms bools p.root) → IsTrue (clauses_truth as_nodes (encoding p))
  to_clauses h =
      list_all-append (clause_truth as_nodes) (first_clauses p (length p.forms)) ((literal (variable_at p p.root) true ∷ []) ∷ [])
      ∙ both_pass (clauses_truth as_nodes (first_clauses p (length p.forms))) ((value_at p as_nodes p.root || false) && true)
      (first_from p as_nodes (length p.forms) (λ k. holds-in k (slice_get p.forms k) refl))
      (ap (λ (b : Bool). (b || false) && true) (value_same p.root ∙ h))

-- ---- from the clauses to the form: each node of a form that names what there is is as its variable

module _ (p : Parts) (a : Assignment) (ordered : IsTrue (forms_in_order 0 p.forms)) (model : IsTrue (clauses_truth a (encoding p))) where
  node-model : (k : ℕ) (n : FormNode) → slice_get p.forms k ≡ Some n → IsTrue (clauses_truth a (node_clauses p k n))
  node-model k n e =
      let parts = both_true (clauses_truth a (first_clauses p (length p.forms))) ((value_at p a p.root || false) && true)
      (sym (list_all-append (clause_truth a) (first_clauses p (length p.forms)) ((literal (variable_at p p.root) true ∷ []) ∷ [])) ∙ model) in
      subst (λ (o : Option FormNode). IsTrue (clauses_truth a (clauses_in p k o))) e (first_to p a (length p.forms) parts.0 k (slice_get_within p.forms k n e))

  root-model : value_at p a p.root ≡ true
  root-model = single_true (value_at p a p.root) (both_true (clauses_truth a (first_clauses p (length p.forms))) ((value_at p a p.root || false) && true)
      (sym (list_all-append (clause_truth a) (first_clauses p (length p.forms)) ((literal (variable_at p p.root) true ∷ []) ∷ [])) ∙ model)).1

  -- node k is as its variable, if its form names what there is
  abbrev Agree : ℕ → Type 0
  Agree k = IsForm (sorts_of_axes p.axes) (length p.atoms) (form_at (graph_forms p.forms) k) → value_at p a k ≡ truth_at p a.atoms a.bools k

  all-agree : (ks : List ℕ) (k : ℕ) → IsTrue (list_all (λ c. nat_lt c k) ks) → AreForms (sorts_of_axes p.axes) (length p.atoms) (picked (graph_forms p.forms) ks) → ((c : ℕ) → c < k → Agree c) →
      list_all (value_at p a) ks ≡ list_all (truth_at p a.atoms a.bools) ks
  all-agree [] k h f g = refl
  all-agree (c ∷ ks) k h f g = let e = both_true (nat_lt c k) (list_all (λ c. nat_lt c k) ks) h in ap₂ (λ x y. x && y) (g c (ltb→lt c k (passes _ e.0)) f.0) (all-agree ks k e.1 f.1 g)

  any-agree : (ks : List ℕ) (k : ℕ) → IsTrue (list_all (λ c. nat_lt c k) ks) → AreForms (sorts_of_axes p.axes) (length p.atoms) (picked (graph_forms p.forms) ks) → ((c : ℕ) → c < k → Agree c) →
      list_any (value_at p a) ks ≡ list_any (truth_at p a.atoms a.bools) ks
  any-agree [] k h f g = refl
  any-agree (c ∷ ks) k h f g = let e = both_true (nat_lt c k) (list_all (λ c. nat_lt c k) ks) h in ap₂ (λ x y. x || y) (g c (ltb→lt c k (passes _ e.0)) f.0) (any-agree ks k e.1 f.1 g)

  step : (k : ℕ) (n : FormNode) → slice_get p.forms k ≡ Some n → IsForm (sorts_of_axes p.axes) (length p.atoms) (node_form (graph_forms p.forms) n) → ((c : ℕ) → c < k → Agree c) →
      variable_truth a (variable_in p k (Some n)) ≡ node_value (truth_at p a.atoms a.bools) a.atoms a.bools n
  step k yes_node e f g = single_true (a.helpers k) (node-model k yes_node e)
  step k no_node e f g = single_false (a.helpers k) (node-model k no_node e)
  step k (atom_node j) e f g = ap (λ (b : Bool). variable_truth a (cond b (Atom j) (Helper k))) (lt-ltb j (length p.atoms) f)
  step k (bool_node i v) e f g = ap (λ (b : Bool). variable_truth a (cond b (BoolIs i v) (Helper k))) (sort_tests p.axes i f)
  step k (all_node ks) e f g = agree_equal (a.helpers k) (list_all (value_at p a) ks) (sym (all_says p a k ks) ∙ node-model k (all_node ks) e) ∙ all-agree ks k (after_children p.forms k (all_node ks) ordered e) f g
  step k (any_node ks) e f g = agree_equal (a.helpers k) (list_any (value_at p a) ks) (sym (any_says p a k ks) ∙ node-model k (any_node ks) e) ∙ any-agree ks k (after_children p.forms k (any_node ks) ordered e) f g

  agree-at : (k : ℕ) (n : FormNode) → slice_get p.forms k ≡ Some n → ((c : ℕ) → c < k → Agree c) → Agree k
  agree-at k n e g f =
      ap (λ (o : Option FormNode). variable_truth a (variable_in p k o)) e
      ∙ step k n e (subst (IsForm (sorts_of_axes p.axes) (length p.atoms)) (form_node_is_its_kind p.forms ordered k n e) f) g
      ∙ sym (truth_of_node p a.atoms a.bools ordered k n e)

  agree-below : (b k : ℕ) → k < b → b ≤ length p.forms → Agree k
  agree-below zero k l m = absurd (omega arith)
  agree-below (suc b) k l m = agree-at k (get_or p.forms k no_node) (slice_get-get_or p.forms k no_node (omega arith)) (λ c d. agree-below b c (omega arith) (omega arith))

  pub from_clauses : IsForm (sorts_of_axes p.axes) (length p.atoms) (form_at (graph_forms p.forms) p.root) → p.root < length p.forms → IsTrue (truth_at p a.atoms a.bools p.root)
  from_clauses f l = sym (agree-below (length p.forms) p.root l (omega arith) f) ∙ root-model

-- ---- both

pub same_models : (p : Parts) → IsWhole p → IsTrue (forms_in_order 0 p.forms) → (atoms : ℕ → Bool) (bools : ℕ → Bool → Bool) →
    IsTrue (form_truth atoms bools (problem_of p).form) ↔ ((helpers : ℕ → Bool) × IsTrue (clauses_truth (record { atoms = atoms; bools = bools; helpers = helpers }) (encoding p)))
same_models p whole ordered atoms bools = (
  (λ h. (truth_at p atoms bools, to_clauses p atoms bools ordered h)),
  (λ m. from_clauses p (record { atoms = atoms; bools = bools; helpers = m.0 }) ordered m.1 whole.problem.form whole.root),
)
