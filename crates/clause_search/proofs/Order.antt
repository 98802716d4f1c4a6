-- The children of a node come before it.
use Rattle.std.proofs.Common.{◌≡◌, ap, subst, ℕ, zero, suc, ◌+◌, ◌<◌, List, [], ◌∷◌, length, IsTrue, Option, Some, nat_lt, ltb→lt, arith}
use Rattle.std.specs.Prelude.{slice_get, slice_index}
use Rattle.std.specs.List.{list_all}
use Rattle.std.specs.Bool.{passes}
use Rattle.std.specs.Option.{unwrap_or}
use Rattle.std.proofs.lemmas.Option.{slice_get_within}
use Rattle.std.specs.declared.vec.Vec.{Vec}
use Rattle.std.specs.declared.alloc.Global.{Global}
use Rattle.dyadic.proofs.Equal.{both_true}
use Rattle.poly_graph.specs.declared.form_node.FormNode as code
use Rattle.poly_graph.specs.declared.form_node.FormNode.TheVariants.{And, Or}
use Rattle.poly_graph.specs.FormViews.{form_node_of}
use Rattle.poly_graph.specs.FormGraph.{FormNode, all_node, any_node, form_comes_after, forms_in_order}

from-place : (j : ℕ) (nodes : List FormNode) (k : ℕ) (n : FormNode) → IsTrue (forms_in_order j nodes) → slice_get nodes k ≡ Some n → IsTrue (form_comes_after (j + k) n)
from-place j [] k n o e = cc
from-place j (m ∷ nodes) zero n o e =
    let here : m ≡ n = ap (λ (x : Option FormNode). unwrap_or x m) e in
    let place : j ≡ j + 0 = omega arith in
    subst (λ (i : ℕ). IsTrue (form_comes_after i n)) place (subst (λ (x : FormNode). IsTrue (form_comes_after j x)) here (both_true (form_comes_after j m) (forms_in_order (suc j) nodes) o).0)
from-place j (m ∷ nodes) (suc k) n o e =
    let place : suc j + k ≡ j + suc k = omega arith in
    subst (λ (i : ℕ). IsTrue (form_comes_after i n)) place (from-place (suc j) nodes k n (both_true (form_comes_after j m) (forms_in_order (suc j) nodes) o).1 e)

pub after_children : (nodes : List FormNode) (k : ℕ) (n : FormNode) → IsTrue (forms_in_order 0 nodes) → slice_get nodes k ≡ Some n → IsTrue (form_comes_after k n)
after_children nodes k n o e = let place : 0 + k ≡ k = omega arith in subst (λ (i : ℕ). IsTrue (form_comes_after i n)) place (from-place 0 nodes k n o e)

below-each : (ks : List ℕ) (k : ℕ) → IsTrue (list_all (λ c. nat_lt c k) ks) → (i : ℕ) → i < length ks → slice_index ks i < k
below-each [] k h i l = absurd (omega arith)
below-each (c ∷ ks) k h zero l = ltb→lt c k (passes _ (both_true (nat_lt c k) (list_all (λ c. nat_lt c k) ks) h).0)
below-each (c ∷ ks) k h (suc i) l = below-each ks k (both_true (nat_lt c k) (list_all (λ c. nat_lt c k) ks) h).1 i (omega arith)

-- the children of a conjunction are nodes, and so are those of a disjunction
pub all_within : (nodes : List FormNode) (k : ℕ) (ks : List ℕ) → IsTrue (forms_in_order 0 nodes) → slice_get nodes k ≡ Some (all_node ks) → (i : ℕ) → i < length ks → slice_index ks i < length nodes
all_within nodes k ks o e i l = omega (arith, below-each ks k (after_children nodes k (all_node ks) o e) i l, slice_get_within nodes k (all_node ks) e)

pub any_within : (nodes : List FormNode) (k : ℕ) (ks : List ℕ) → IsTrue (forms_in_order 0 nodes) → slice_get nodes k ≡ Some (any_node ks) → (i : ℕ) → i < length ks → slice_index ks i < length nodes
any_within nodes k ks o e i l = omega (arith, below-each ks k (after_children nodes k (any_node ks) o e) i l, slice_get_within nodes k (any_node ks) e)

-- what the code reads of a node is what the form has there
pub all_children : (forms read : List FormNode) (k : ℕ) (n : code.FormNode) (v : Vec ℕ Global) (ks : List ℕ) → read ≡ forms → slice_get read k ≡ Some (form_node_of n) → n ≡ And v → ks ≡ v.items → slice_get forms k ≡ Some (all_node ks)
all_children forms read k n v ks e f g h = cc

pub any_children : (forms read : List FormNode) (k : ℕ) (n : code.FormNode) (v : Vec ℕ Global) (ks : List ℕ) → read ≡ forms → slice_get read k ≡ Some (form_node_of n) → n ≡ Or v → ks ≡ v.items → slice_get forms k ≡ Some (any_node ks)
any_children forms read k n v ks e f g h = cc
