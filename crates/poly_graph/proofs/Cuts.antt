-- Nodes and atoms that are taken back, the last one first.
use Rattle.std.proofs.Common.{◌≡◌, ℕ, suc, zero, ◌+◌, ◌-◌, ◌<◌, List, [], ◌∷◌, ◌++◌, map, length, take, IsTrue, None, refl, ap, ◌∙◌, subst, arith, length-append}
use Rattle.std.specs.HashMap.{HashMap, Updates}
use Rattle.dyadic.proofs.Equal.{both_true, both_pass}
use Rattle.poly_graph.specs.declared.node.Node.{Node}
use Rattle.poly_graph.specs.declared.node.Atom.{Atom}
use Rattle.poly_graph.specs.declared.form_node.FormNode.{FormNode}
use Rattle.poly_graph.specs.Term
use Rattle.poly_graph.specs.Term.{in_order, comes_after}
use Rattle.poly_graph.specs.FormGraph
use Rattle.poly_graph.specs.FormGraph.{forms_in_order, form_comes_after, forms_size, node_size}
use Rattle.poly_graph.specs.Views.{node_of, atom_of}
use Rattle.poly_graph.specs.FormViews.{form_node_of, same_form_node, IsSharedForm}
use Rattle.poly_graph.specs.Shared.{same_node, IsShared}
use Rattle.poly_graph.specs.AtomTable.{same_atom, IsAtomTable}
use Rattle.poly_graph.proofs.Tables.{IsTable, table_cut, map_end}
use Rattle.poly_graph.proofs.Shared.{same_view, view_same}
use Rattle.poly_graph.proofs.Atoms.{atom_view, view_atom}
use Rattle.poly_graph.proofs.SharedForm as form
use Rattle.poly_graph.proofs.SharedForm.{size_end}

-- ---- the first elements of a list

-- without the last one
pub but_last : {X : Type 0} (xs : List X) (x : X) → take (length (xs ++ (x ∷ [])) - 1) (xs ++ (x ∷ [])) ≡ xs
but_last [] x = refl
but_last (y ∷ xs) x =
    let places : length (y ∷ xs ++ (x ∷ [])) - 1 ≡ suc (length (xs ++ (x ∷ [])) - 1) = omega (arith, length-append xs (x ∷ [])) in
    ap (λ k. take k (y ∷ xs ++ (x ∷ []))) places ∙ ap (λ ys. y ∷ ys) (but_last xs x)

-- no more than the first n of a longer list are those of the list without its last element
pub take_shorter : {X : Type 0} (n : ℕ) (xs : List X) → n < length xs → take n (take (length xs - 1) xs) ≡ take n xs
take_shorter n [] h = absurd (omega (arith, h))
take_shorter zero (x ∷ xs) h = refl
take_shorter (suc n) (x ∷ xs) h =
    let places : length (x ∷ xs) - 1 ≡ suc (length xs - 1) = omega (arith, h) in
    ap (λ k. take (suc n) (take k (x ∷ xs))) places ∙ ap (λ ys. x ∷ ys) (take_shorter n xs (omega (arith, h)))

-- ---- order

order-init : (k : ℕ) (ns : List Term.Node) (n : Term.Node) → IsTrue (in_order k (ns ++ (n ∷ []))) → IsTrue (in_order k ns)
order-init k [] n o = refl
order-init k (m ∷ ns) n o = let e = both_true (comes_after k m) (in_order (suc k) (ns ++ (n ∷ []))) o in both_pass (comes_after k m) (in_order (suc k) ns) e.0 (order-init (suc k) ns n e.1)

form-order-init : (k : ℕ) (ns : List FormGraph.FormNode) (n : FormGraph.FormNode) → IsTrue (forms_in_order k (ns ++ (n ∷ []))) → IsTrue (forms_in_order k ns)
form-order-init k [] n o = refl
form-order-init k (m ∷ ns) n o = let e = both_true (form_comes_after k m) (forms_in_order (suc k) (ns ++ (n ∷ []))) o in both_pass (form_comes_after k m) (forms_in_order (suc k) ns) e.0 (form-order-init (suc k) ns n e.1)

-- ---- what stays is shared

pub nodes_cut : {S : Type 0} (all nodes : List Node) (node : Node) (numbers after : HashMap Node ℕ S) → all ≡ nodes ++ (node ∷ []) → IsShared all numbers → Updates same_node numbers after node None → IsShared nodes after
nodes_cut all nodes node numbers after is whole u =
    let s : IsShared (nodes ++ (node ∷ [])) numbers = subst (λ (ns : List Node). IsShared ns numbers) is whole in
    let table : IsTable node_of same_node same_view view_same (nodes ++ (node ∷ [])) numbers = record { found = s.found; known = s.known } in
    let t = table_cut node_of same_node same_view view_same nodes node numbers after table u in record {
      few = omega (arith, length-append nodes (node ∷ []), s.few);
      ordered = order-init 0 (map node_of nodes) (node_of node) (subst (λ (ns : List Term.Node). IsTrue (in_order 0 ns)) (map_end node_of nodes node) s.ordered);
      found = t.found;
      known = t.known;
    }

pub atoms_cut : {S : Type 0} (all atoms : List Atom) (atom : Atom) (numbers after : HashMap Atom ℕ S) → all ≡ atoms ++ (atom ∷ []) → IsAtomTable all numbers → Updates same_atom numbers after atom None → IsAtomTable atoms after
atoms_cut all atoms atom numbers after is whole u =
    let s : IsAtomTable (atoms ++ (atom ∷ [])) numbers = subst (λ (ns : List Atom). IsAtomTable ns numbers) is whole in
    let table : IsTable atom_of same_atom atom_view view_atom (atoms ++ (atom ∷ [])) numbers = record { found = s.found; known = s.known } in
    let t = table_cut atom_of same_atom atom_view view_atom atoms atom numbers after table u in record {
      few = omega (arith, length-append atoms (atom ∷ []), s.few);
      found = t.found;
      known = t.known;
    }

-- the size of a node that is taken back is part of the whole
pub size_within : {S : Type 0} (all nodes : List FormNode) (node : FormNode) (numbers : HashMap FormNode ℕ S) (size : ℕ) → all ≡ nodes ++ (node ∷ []) → IsSharedForm all numbers size → size ≡ forms_size (map form_node_of nodes) + node_size (form_node_of node)
size_within all nodes node numbers size is s = s.sized ∙ ap (λ ns. forms_size (map form_node_of ns)) is ∙ ap forms_size (map_end form_node_of nodes node) ∙ size_end (map form_node_of nodes) (form_node_of node)

pub cut_within : {S : Type 0} (all nodes : List FormNode) (node : FormNode) (numbers after : HashMap FormNode ℕ S) (size part : ℕ) → all ≡ nodes ++ (node ∷ []) → IsSharedForm all numbers size →
    Updates same_form_node numbers after node None → part ≡ node_size (form_node_of node) → IsSharedForm nodes after (size - part)
cut_within all nodes node numbers after size part is whole u e =
    let s : IsSharedForm (nodes ++ (node ∷ [])) numbers size = subst (λ (ns : List FormNode). IsSharedForm ns numbers size) is whole in
    let table : IsTable form_node_of same_form_node form.same_view form.view_same (nodes ++ (node ∷ [])) numbers = record { found = s.found; known = s.known } in
    let t = table_cut form_node_of same_form_node form.same_view form.view_same nodes node numbers after table u in record {
      sized = omega (arith, size_within all nodes node numbers size is whole, e);
      few = omega (arith, s.few);
      ordered = form-order-init 0 (map form_node_of nodes) (form_node_of node) (subst (λ (ns : List FormGraph.FormNode). IsTrue (forms_in_order 0 ns)) (map_end form_node_of nodes node) s.ordered);
      found = t.found;
      known = t.known;
    }
