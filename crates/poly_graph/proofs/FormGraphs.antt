-- In a shared form whose children come first, a node's form is that of its kind over its children's forms.
use Rattle.std.proofs.Common.{◌≡◌, ℕ, suc, zero, ◌+◌, ◌<◌, List, [], ◌∷◌, ◌++◌, IsTrue, Option, Some, refl, ap, ap₂, sym, ◌∙◌, subst, length, arith, nat_lt, ltb→lt, length-append}
use Rattle.std.specs.Prelude.{slice_get}
use Rattle.std.specs.List.{list_all}
use Rattle.std.specs.Bool.{passes}
use Rattle.std.specs.Option.{unwrap_or}
use Rattle.dyadic.proofs.Equal.{both_true}
use Rattle.poly_graph.specs.Form.{Form, more_forms, all_form, any_form}
use Rattle.poly_graph.specs.FormGraph.{FormNode, yes_node, no_node, atom_node, bool_node, all_node, any_node, form_comes_after, forms_in_order, form_at, picked, node_form, forms_after, graph_forms}
use Rattle.poly_graph.specs.Laws.{FormNodeIsItsKind}

some-is : (m n : FormNode) → Some m ≡ Some n → m ≡ n
some-is m n e = ap (λ (o : Option FormNode). unwrap_or o m) e

below-end : (done : List (Form ℕ)) (f : Form ℕ) (k : ℕ) → k < length done → form_at (done ++ (f ∷ [])) k ≡ form_at done k
below-end [] f k h = absurd (omega arith)
below-end (g ∷ done) f zero h = refl
below-end (g ∷ done) f (suc k) h = below-end done f k (omega arith)

at-end : (done : List (Form ℕ)) (f : Form ℕ) → form_at (done ++ (f ∷ [])) (length done) ≡ f
at-end [] f = refl
at-end (g ∷ done) f = at-end done f

longer : (done : List (Form ℕ)) (f : Form ℕ) → length (done ++ (f ∷ [])) ≡ suc (length done)
longer done f = length-append done (f ∷ []) ∙ omega arith

kept : (nodes : List FormNode) (done : List (Form ℕ)) (k : ℕ) → k < length done → form_at (forms_after done nodes) k ≡ form_at done k
kept [] done k h = refl
kept (n ∷ nodes) done k h = kept nodes (done ++ (node_form done n ∷ [])) k (omega (arith, longer done (node_form done n), h)) ∙ below-end done (node_form done n) k h

same-picked : (ks : List ℕ) (k : ℕ) (xs ys : List (Form ℕ)) → IsTrue (list_all (λ i. nat_lt i k) ks) → ((i : ℕ) → i < k → form_at xs i ≡ form_at ys i) → picked xs ks ≡ picked ys ks
same-picked [] k xs ys h f = refl
same-picked (j ∷ ks) k xs ys h f = let e = both_true (nat_lt j k) (list_all (λ i. nat_lt i k) ks) h in ap₂ more_forms (f j (ltb→lt j k (passes _ e.0))) (same-picked ks k xs ys e.1 f)

pub same_form : (n : FormNode) (k : ℕ) (xs ys : List (Form ℕ)) → IsTrue (form_comes_after k n) → ((i : ℕ) → i < k → form_at xs i ≡ form_at ys i) → node_form xs n ≡ node_form ys n
same_form yes_node k xs ys h f = refl
same_form no_node k xs ys h f = refl
same_form (atom_node j) k xs ys h f = refl
same_form (bool_node axis v) k xs ys h f = refl
same_form (all_node ks) k xs ys h f = ap all_form (same-picked ks k xs ys h f)
same_form (any_node ks) k xs ys h f = ap any_form (same-picked ks k xs ys h f)

unfolds-from : (nodes : List FormNode) (done : List (Form ℕ)) → IsTrue (forms_in_order (length done) nodes) → (i : ℕ) (n : FormNode) → slice_get nodes i ≡ Some n →
    form_at (forms_after done nodes) (length done + i) ≡ node_form (forms_after done nodes) n
unfolds-from [] done h i n e = cc
unfolds-from (m ∷ nodes) done h zero n e =
    let o = both_true (form_comes_after (length done) m) (forms_in_order (suc (length done)) nodes) h in
    let whole : List (Form ℕ) = forms_after (done ++ (node_form done m ∷ [])) nodes in
    ap (λ (k : ℕ). form_at whole k) (omega arith)
    ∙ kept nodes (done ++ (node_form done m ∷ [])) (length done) (omega (arith, longer done (node_form done m)))
    ∙ at-end done (node_form done m)
    ∙ same_form m (length done) done whole o.0 (λ k l. sym (kept (m ∷ nodes) done k l))
    ∙ ap (λ (x : FormNode). node_form whole x) (some-is m n e)
unfolds-from (m ∷ nodes) done h (suc i) n e =
    let o = both_true (form_comes_after (length done) m) (forms_in_order (suc (length done)) nodes) h in
    let next : List (Form ℕ) = done ++ (node_form done m ∷ []) in
    ap (λ (k : ℕ). form_at (forms_after next nodes) k) (omega (arith, longer done (node_form done m)))
    ∙ unfolds-from nodes next (subst (λ (k : ℕ). IsTrue (forms_in_order k nodes)) (sym (longer done (node_form done m))) o.1) i n e

pub form_node_is_its_kind : FormNodeIsItsKind
form_node_is_its_kind nodes h i n e = ap (λ (k : ℕ). form_at (graph_forms nodes) k) (omega arith) ∙ unfolds-from nodes [] h i n e
