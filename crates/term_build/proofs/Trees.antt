-- Trees of a shared graph to which nodes are added.
use Rattle.std.proofs.Common.{◌≡◌, ℕ, suc, zero, ◌+◌, ◌<◌, ◌≤◌, List, [], ◌∷◌, ◌++◌, map, length, Bool, true, false, cond, IsTrue, Some, refl, ap, ap₂, sym, ◌∙◌, subst, arith, nat_lt, ltb→lt}
use Rattle.std.specs.Prelude.{slice_get, All}
use Rattle.std.specs.Bool.{passes}
use Rattle.dyadic.proofs.Equal.{both_true}
use Rattle.dyadic.specs.Fraction.{zero_fraction}
use Rattle.poly_graph.specs.Term.{Term, constant, Node, constant_node, variable_node, negate_node, add_node, multiply_node, square_node, node_term, terms_after, graph_terms, comes_after, Kind}
use Rattle.poly_graph.specs.Shared.{IsGraph, IsNew}
use Rattle.poly_graph.proofs.Graphs.{unfolds, length_terms, in_order_at}
use Rattle.poly_graph.proofs.Same.{one_number}
use Rattle.script_forms.specs.Terms.{same_term}
use Rattle.script_forms.specs.Walk.{has_tree}
use Rattle.script_forms.proofs.Means.{same_term_is}
use Rattle.script_forms.proofs.Numbered.{term_self}
use Rattle.term_build.specs.Built.{full_atom, IsAtomOf}
use Rattle.term_build.proofs.Lists.{index_get, get_below, index_before, stood, all_head, all_tail}

-- ---- a node more is a tree more

terms-after-end : (ns : List Node) (done : List Term) (n : Node) → terms_after done (ns ++ (n ∷ [])) ≡ terms_after done ns ++ (node_term (terms_after done ns) n ∷ [])
terms-after-end [] done n = refl
terms-after-end (m ∷ ns) done n = terms-after-end ns (done ++ (node_term done m ∷ [])) n

pub terms_end : (ns : List Node) (n : Node) → graph_terms (ns ++ (n ∷ [])) ≡ graph_terms ns ++ (node_term (graph_terms ns) n ∷ [])
terms_end ns n = terms-after-end ns [] n

pub tree_at : (ns : List Node) → IsGraph ns → (k : ℕ) (n : Node) → slice_get ns k ≡ Some n → slice_get (graph_terms ns) k ≡ Some (node_term (graph_terms ns) n)
tree_at ns g k n h = index_get (graph_terms ns) k (constant zero_fraction) (omega (arith, get_below ns k n h, length_terms ns)) ∙ ap (λ t. Some t) (unfolds ns g.ordered k n h)

-- ---- whether a tree stands in a list

later : (b x : Bool) → x ≡ true → cond b true x ≡ true
later true x h = refl
later false x h = h

pub has_at : (ts : List Term) (k : ℕ) (t : Term) → slice_get ts k ≡ Some t → has_tree t ts ≡ true
has_at [] k t h = cc
has_at (u ∷ ts) zero t h = let e : u ≡ t = cc in ap (λ b. cond b true (has_tree t ts)) (ap (same_term t) e ∙ term_self t)
has_at (u ∷ ts) (suc k) t h = later (same_term t u) (has_tree t ts) (has_at ts k t h)

is-at-step : (u : Term) (ts : List Term) (t : Term) (b : Bool) → same_term t u ≡ b → cond b true (has_tree t ts) ≡ true → (has_tree t ts ≡ true → (k : ℕ) × (slice_get ts k ≡ Some t)) → (k : ℕ) × (slice_get (u ∷ ts) k ≡ Some t)
is-at-step u ts t true e h f = (zero, ap (λ x. Some x) (sym (same_term_is t u e)))
is-at-step u ts t false e h f = let r = f h in (suc r.0, r.1)

pub is_at : (ts : List Term) (t : Term) → has_tree t ts ≡ true → (k : ℕ) × (slice_get ts k ≡ Some t)
is_at [] t h = cc
is_at (u ∷ ts) t h = is-at-step u ts t (same_term t u) refl h (is_at ts t)

-- ---- a new node is a new tree

-- nodes of one tree, the children of both being nodes of the graph, are one
pub same_node : (ns : List Node) → IsGraph ns → (j k : ℕ) (m n : Node) → j ≤ length ns → k ≤ length ns → IsTrue (comes_after j m) → IsTrue (comes_after k n) → node_term (graph_terms ns) m ≡ node_term (graph_terms ns) n → m ≡ n
same_node ns g j k (constant_node p) (constant_node q) b c o l h = ap constant_node cc
same_node ns g j k (variable_node x) (variable_node y) b c o l h = ap variable_node cc
same_node ns g j k (negate_node x) (negate_node y) b c o l h = ap negate_node (one_number ns g x y (omega (arith, ltb→lt x j (passes _ o))) (omega (arith, ltb→lt y k (passes _ l))) cc)
same_node ns g j k (add_node x y) (add_node z w) b c o l h = let e = both_true (nat_lt x j) (nat_lt y j) o in let f = both_true (nat_lt z k) (nat_lt w k) l in
    ap₂ add_node (one_number ns g x z (omega (arith, ltb→lt x j (passes _ e.0))) (omega (arith, ltb→lt z k (passes _ f.0))) cc) (one_number ns g y w (omega (arith, ltb→lt y j (passes _ e.1))) (omega (arith, ltb→lt w k (passes _ f.1))) cc)
same_node ns g j k (multiply_node x y) (multiply_node z w) b c o l h = let e = both_true (nat_lt x j) (nat_lt y j) o in let f = both_true (nat_lt z k) (nat_lt w k) l in
    ap₂ multiply_node (one_number ns g x z (omega (arith, ltb→lt x j (passes _ e.0))) (omega (arith, ltb→lt z k (passes _ f.0))) cc) (one_number ns g y w (omega (arith, ltb→lt y j (passes _ e.1))) (omega (arith, ltb→lt w k (passes _ f.1))) cc)
same_node ns g j k (square_node x) (square_node y) b c o l h = ap square_node (one_number ns g x y (omega (arith, ltb→lt x j (passes _ o))) (omega (arith, ltb→lt y k (passes _ l))) cc)
same_node ns g j k _ _ b c o l h = cc

new-by : (ns : List Node) → IsGraph ns → (n : Node) → IsTrue (comes_after (length ns) n) → IsNew ns n → (b : Bool) → has_tree (node_term (graph_terms ns) n) (graph_terms ns) ≡ b → b ≡ false
new-by ns g n o f false h = refl
new-by ns g n o f true h =
    let r = is_at (graph_terms ns) (node_term (graph_terms ns) n) h in
    let below : r.0 < length ns = omega (arith, get_below (graph_terms ns) r.0 (node_term (graph_terms ns) n) r.1, length_terms ns) in
    let m = stood ns r.0 below in
    let after = (in_order_at 0 ns g.ordered r.0 m.0 m.1).0 in
    let here : 0 + r.0 ≡ r.0 = omega arith in
    let t : Some (node_term (graph_terms ns) m.0) ≡ Some (node_term (graph_terms ns) n) = sym (tree_at ns g r.0 m.0 m.1) ∙ r.1 in
    absurd (f r.0 (m.1 ∙ ap (λ x. Some x) (same_node ns g r.0 (length ns) m.0 n (omega arith) (omega arith) (subst (λ (i : ℕ). IsTrue (comes_after i m.0)) here after) o (some_term _ _ t))))
  where
    some_term : (x y : Term) → Some x ≡ Some y → x ≡ y
    some_term x y e = cc

pub new_tree : (ns : List Node) → IsGraph ns → (n : Node) → IsTrue (comes_after (length ns) n) → IsNew ns n → has_tree (node_term (graph_terms ns) n) (graph_terms ns) ≡ false
new_tree ns g n o f = new-by ns g n o f (has_tree (node_term (graph_terms ns) n) (graph_terms ns)) refl

-- ---- atoms keep their terms

pub atoms_kept : (ns : List Node) (ts : List Term) (atoms : List (ℕ × Kind)) → All (IsAtomOf ns) atoms → map (full_atom (graph_terms ns)) atoms ≡ map (full_atom (graph_terms ns ++ ts)) atoms
atoms_kept ns ts [] h = refl
atoms_kept ns ts ((k, kind) ∷ atoms) h = ap₂ (λ t rest. (t, kind) ∷ rest)
    (sym (index_before (graph_terms ns) ts k (constant zero_fraction) (omega (arith, all_head (IsAtomOf ns) (k, kind) atoms h, length_terms ns))))
    (atoms_kept ns ts atoms (all_tail (IsAtomOf ns) (k, kind) atoms h))
