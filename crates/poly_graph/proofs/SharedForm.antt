-- A shared form stays one where a new node is added.
use Rattle.std.proofs.Common.{◌≡◌, inr, ℕ, suc, ◌+◌, ◌<◌, ◌≤◌, List, [], ◌∷◌, ◌++◌, map, length, Bool, true, false, IsTrue, Some, None, refl, ap, ap₂, sym, ◌∙◌, subst, arith, nat_eq, eqb→eq}
use Rattle.std.proofs.lemmas.Bool.{eq-eqb}
use Rattle.std.specs.Bool.{passes, Decides}
use Rattle.dyadic.proofs.Equal.{both_true, both_pass}
use Rattle.poly_graph.specs.declared.form_node.FormNode.{FormNode}
use Rattle.poly_graph.specs.declared.form_node.FormNode.TheVariants.{True, False, AtomIs, BoolIs, And, Or}
use Rattle.poly_graph.specs.FormGraph
use Rattle.poly_graph.specs.FormGraph.{yes_node, no_node, atom_node, bool_node, all_node, any_node, forms_in_order, form_comes_after, forms_size, node_size, most_forms, IsNewForm, IsFormGraph, FormInterned}
use Rattle.poly_graph.specs.FormViews.{form_node_of, same_form_node, IsSharedForm, PutsLike}
use Rattle.poly_graph.proofs.Tables.{IsTable, once, absent_new, table_add, at_end, map_end}
use Rattle.std.proofs.Math.Bool.{beq}
use Rattle.std.proofs.lemmas.List.{length-map}
use Rattle.std.proofs.lemmas.Slice.Eq.{slice_eq-Decides}
use Rattle.std.specs.Cmp.Lexicographic.{pointwise}
use Rattle.std.specs.Prelude.{slice_get, Result, Ok, Err, OnOk, is_err}
use Rattle.std.specs.HashMap.{HashMap, get, Updates}

same-bool : (v w : Bool) → beq v w ≡ true → v ≡ w
same-bool true true h = refl
same-bool false false h = refl
same-bool true false h = cc
same-bool false true h = cc

bool-same : (v w : Bool) → v ≡ w → beq v w ≡ true
bool-same true true h = refl
bool-same false false h = refl
bool-same true false h = cc
bool-same false true h = cc

numbers-decide : (xs ys : List ℕ) → Decides (pointwise nat_eq xs ys) (xs ≡ ys)
numbers-decide xs ys = slice_eq-Decides {E = nat_eq} (λ a b. (λ h. eqb→eq a b (passes _ h), eq-eqb a b)) xs ys (pointwise nat_eq xs ys) refl

pub same_view : (a b : FormNode) → same_form_node a b ≡ true → form_node_of a ≡ form_node_of b
same_view True True h = refl
same_view False False h = refl
same_view (AtomIs i) (AtomIs j) h = ap FormGraph.atom_node (eqb→eq i j (passes _ h))
same_view (BoolIs i v) (BoolIs j w) h = let e = both_true (nat_eq i j) (beq v w) h in ap₂ FormGraph.bool_node (eqb→eq i j (passes _ e.0)) (same-bool v w e.1)
same_view (And a) (And b) h = ap FormGraph.all_node ((numbers-decide a.items b.items).0 h)
same_view (Or a) (Or b) h = ap FormGraph.any_node ((numbers-decide a.items b.items).0 h)
same_view _ _ h = cc

pub view_same : (a b : FormNode) → form_node_of a ≡ form_node_of b → same_form_node a b ≡ true
view_same True True h = refl
view_same False False h = refl
view_same (AtomIs i) (AtomIs j) h = eq-eqb i j cc
view_same (BoolIs i v) (BoolIs j w) h = both_pass (nat_eq i j) (beq v w) (eq-eqb i j cc) (bool-same v w cc)
view_same (And a) (And b) h = (numbers-decide a.items b.items).1 cc
view_same (Or a) (Or b) h = (numbers-decide a.items b.items).1 cc
view_same _ _ h = cc

-- ---- sizes and order

some-size : (n : FormGraph.FormNode) → 0 < node_size n
some-size yes_node = omega arith
some-size no_node = omega arith
some-size (atom_node j) = omega arith
some-size (bool_node axis v) = omega arith
some-size (all_node ks) = omega arith
some-size (any_node ks) = omega arith

-- there are no more nodes than the size says
pub length_within : (ns : List FormGraph.FormNode) → length ns ≤ forms_size ns
length_within [] = omega arith
length_within (n ∷ ns) = omega (arith, length_within ns, some-size n)

pub size_end : (ns : List FormGraph.FormNode) (n : FormGraph.FormNode) → forms_size (ns ++ (n ∷ [])) ≡ forms_size ns + node_size n
size_end [] n = omega arith
size_end (m ∷ ns) n = omega (arith, size_end ns n)

order-end : (k : ℕ) (ns : List FormGraph.FormNode) (n : FormGraph.FormNode) → IsTrue (forms_in_order k ns) → IsTrue (form_comes_after (k + length ns) n) → IsTrue (forms_in_order k (ns ++ (n ∷ [])))
order-end k [] n o h = let e : k + 0 ≡ k = omega arith in both_pass (form_comes_after k n) true (subst (λ (j : ℕ). IsTrue (form_comes_after j n)) e h) refl
order-end k (m ∷ ns) n o h = let e = both_true (form_comes_after k m) (forms_in_order (suc k) ns) o in let place : k + suc (length ns) ≡ suc k + length ns = omega arith in
    both_pass (form_comes_after k m) (forms_in_order (suc k) (ns ++ (n ∷ []))) e.0 (order-end (suc k) ns n e.1 (subst (λ (j : ℕ). IsTrue (form_comes_after j n)) place h))

-- ---- the shared form

table : {S : Type 0} (nodes : List FormNode) (numbers : HashMap FormNode ℕ S) (size : ℕ) → IsSharedForm nodes numbers size → IsTable form_node_of same_form_node same_view view_same nodes numbers
table nodes numbers size s = record { found = s.found; known = s.known }

pub shared_is_form_graph : {S : Type 0} (nodes : List FormNode) (numbers : HashMap FormNode ℕ S) (size : ℕ) → IsSharedForm nodes numbers size → IsFormGraph (map form_node_of nodes)
shared_is_form_graph nodes numbers size s = record {
  few = omega (arith, s.sized, s.few);
  ordered = s.ordered;
  once = once form_node_of same_form_node same_view view_same nodes numbers (table nodes numbers size s);
}

pub absent_is_new_form : {S : Type 0} (nodes : List FormNode) (numbers : HashMap FormNode ℕ S) (size : ℕ) (q : FormNode) → IsSharedForm nodes numbers size → get same_form_node numbers q ≡ None → IsNewForm (map form_node_of nodes) (form_node_of q)
absent_is_new_form nodes numbers size q s h = absent_new form_node_of same_form_node same_view view_same nodes numbers q (table nodes numbers size s) h

pub on_ok : {X E : Type 0} (r : Result X E) (P : Type 0) → false ≡ is_err r → OnOk r P → P
on_ok (Ok x) P e h = h
on_ok (Err x) P e h = cc

-- what holds after a node is added at the end
pub record FormAdded {S : Type 0} (value : List FormGraph.FormNode) (new : List FormNode) (after : HashMap FormNode ℕ S) (size : ℕ) (node : FormGraph.FormNode) (n : ℕ) : Type 0 where
  pub shared : IsSharedForm new after size
  pub interned : FormInterned value (map form_node_of new) node n

pub form_added : {S : Type 0} (nodes new : List FormNode) (numbers after : HashMap FormNode ℕ S) (size more : ℕ) (node : FormNode) (n : ℕ) (value : List FormGraph.FormNode) → map form_node_of nodes ≡ value →
    IsSharedForm nodes numbers size → IsTrue (form_comes_after (length value) (form_node_of node)) → n ≡ length nodes → more ≡ node_size (form_node_of node) → size + more ≤ most_forms →
    None ≡ get same_form_node numbers node → new ≡ nodes ++ (node ∷ []) → PutsLike numbers after node n → FormAdded value new after (size + more) (form_node_of node) n
form_added nodes new numbers after size more node n value is s o place big few absent items u =
    let images : map form_node_of new ≡ value ++ (form_node_of node ∷ []) = ap (map form_node_of) items ∙ map_end form_node_of nodes node ∙ ap (λ (ns : List FormGraph.FormNode). ns ++ (form_node_of node ∷ [])) is in
    let last : n ≡ length value = place ∙ sym (length-map nodes form_node_of) ∙ ap (λ (ns : List FormGraph.FormNode). length ns) is in
    let size-is : size ≡ forms_size value = s.sized ∙ ap forms_size is in
    let t = table_add form_node_of same_form_node same_view view_same nodes numbers after node u.key u.alike (table nodes numbers size s) (sym absent) (subst (λ (k : ℕ). Updates same_form_node numbers after u.key (Some k)) place u.updates) in
    let t' : IsTable form_node_of same_form_node same_view view_same new after = subst (λ (ns : List FormNode). IsTable form_node_of same_form_node same_view view_same ns after) (sym items) t in record {
      shared = record {
        sized = omega (arith, size-is, size_end value (form_node_of node), big) ∙ ap forms_size (sym images);
        few = few;
        ordered = subst (λ (ns : List FormGraph.FormNode). IsTrue (forms_in_order 0 ns)) (sym images)
            (order-end 0 value (form_node_of node) (subst (λ (ns : List FormGraph.FormNode). IsTrue (forms_in_order 0 ns)) is s.ordered) (let start : length value ≡ 0 + length value = omega arith in subst (λ (k : ℕ). IsTrue (form_comes_after k (form_node_of node))) start o));
        found = t'.found;
        known = t'.known;
      };
      interned = (
        subst (λ (ns : List FormGraph.FormNode). slice_get ns n ≡ Some (form_node_of node)) (sym images) (subst (λ (k : ℕ). slice_get (value ++ (form_node_of node ∷ [])) k ≡ Some (form_node_of node)) (sym last) (at_end value (form_node_of node))),
        inr (images, last, subst (λ (ns : List FormGraph.FormNode). IsNewForm ns (form_node_of node)) is (absent_is_new_form nodes numbers size node s (sym absent))),
      );
    }

pub shared_length : {S : Type 0} (nodes : List FormNode) (numbers : HashMap FormNode ℕ S) (size : ℕ) → IsSharedForm nodes numbers size → length nodes ≤ 1048576
shared_length nodes numbers size s = omega (arith, length_within (map form_node_of nodes), length-map nodes form_node_of, s.sized, s.few)
