-- The shared form of a problem with a limit.
use Rattle.std.proofs.Common.{◌≡◌, inl, inr, ℕ, suc, zero, ◌+◌, ◌-◌, ◌<◌, ◌≤◌, List, [], ◌∷◌, ◌++◌, length, true, IsTrue, Some, refl, ap, ap₂, sym, ◌∙◌, subst, arith, nat_lt, take, length-append}
use Rattle.std.proofs.lemmas.List.{get_or_append_left}
use Rattle.std.proofs.Math.Seq.{take-length}
use Rattle.std.specs.Prelude.{slice_get}
use Rattle.std.specs.List.{list_all}
use Rattle.dyadic.proofs.Equal.{both_true, both_pass}
use Rattle.poly_graph.specs.Form.{Form, all_form, no_form, no_forms, more_forms}
use Rattle.poly_graph.specs.FormGraph.{FormNode, atom_node, all_node, form_comes_after, forms_in_order, form_at, node_form, forms_after, graph_forms, node_size, forms_size, most_forms, IsFormGraph, IsNewForm}
use Rattle.poly_graph.proofs.FormGraphs.{form_node_is_its_kind}
use Rattle.poly_graph.proofs.SharedForm.{size_end}
use Rattle.goal_limit.specs.Made.{HasNode, IsLimitForm}
use Rattle.goal_limit.proofs.Ends.{once_end}

order-end : (k : ℕ) (ns : List FormNode) (n : FormNode) → IsTrue (forms_in_order k ns) → IsTrue (form_comes_after (k + length ns) n) → IsTrue (forms_in_order k (ns ++ (n ∷ [])))
order-end k [] n o h = let e : k + 0 ≡ k = omega arith in both_pass (form_comes_after k n) true (subst (λ (j : ℕ). IsTrue (form_comes_after j n)) e h) refl
order-end k (m ∷ ns) n o h = let e = both_true (form_comes_after k m) (forms_in_order (suc k) ns) o in let place : k + suc (length ns) ≡ suc k + length ns = omega arith in
    both_pass (form_comes_after k m) (forms_in_order (suc k) (ns ++ (n ∷ []))) e.0 (order-end (suc k) ns n e.1 (subst (λ (j : ℕ). IsTrue (form_comes_after j n)) place h))

graph-end : (ns : List FormNode) (n : FormNode) → IsFormGraph ns → forms_size ns + node_size n ≤ most_forms → IsTrue (form_comes_after (length ns) n) → IsNewForm ns n → IsFormGraph (ns ++ (n ∷ []))
graph-end ns n g few after new = let place : length ns ≡ 0 + length ns = omega arith in record {
  few = omega (arith, size_end ns n, few);
  ordered = order-end 0 ns n g.ordered (subst (λ (j : ℕ). IsTrue (form_comes_after j n)) place after);
  once = once_end ns n g.once new;
}

in-order-at : (k : ℕ) (ns : List FormNode) → IsTrue (forms_in_order k ns) → (i : ℕ) (n : FormNode) → slice_get ns i ≡ Some n → IsTrue (form_comes_after (k + i) n) × (i < length ns)
in-order-at k [] h i n e = cc
in-order-at k (m ∷ ns) h zero n e = let o = both_true (form_comes_after k m) (forms_in_order (suc k) ns) h in let p : m ≡ n = cc in let q : k ≡ k + 0 = omega arith in
    (subst (λ (j : ℕ). IsTrue (form_comes_after j n)) q (subst (λ (x : FormNode). IsTrue (form_comes_after k x)) p o.0), omega arith)
in-order-at k (m ∷ ns) h (suc i) n e = let o = both_true (form_comes_after k m) (forms_in_order (suc k) ns) h in let q : suc k + i ≡ k + suc i = omega arith in
    let r = in-order-at (suc k) ns o.1 i n e in
    (subst (λ (j : ℕ). IsTrue (form_comes_after j n)) q r.0, let l = r.1 in omega arith)

-- ---- the forms of nodes with one more

after-end : (ns : List FormNode) (done : List (Form ℕ)) (n : FormNode) → forms_after done (ns ++ (n ∷ [])) ≡ forms_after done ns ++ (node_form (forms_after done ns) n ∷ [])
after-end [] done n = refl
after-end (m ∷ ns) done n = after-end ns (done ++ (node_form done m ∷ [])) n

length-after : (ns : List FormNode) (done : List (Form ℕ)) → length (forms_after done ns) ≡ length done + length ns
length-after [] done = omega arith
length-after (n ∷ ns) done = length-after ns (done ++ (node_form done n ∷ [])) ∙ omega (arith, length-append done (node_form done n ∷ []))

length-forms : (ns : List FormNode) → length (graph_forms ns) ≡ length ns
length-forms ns = length-after ns [] ∙ omega arith

-- ---- a node that is there or is added

pub node_there : (ns : List FormNode) (n : FormNode) (k : ℕ) → IsFormGraph ns → slice_get ns k ≡ Some n → HasNode ns n ns k
node_there ns n k g h = record { graph = g; interned = (h, inl refl) }

at-last : (ns : List FormNode) (n : FormNode) → slice_get (ns ++ (n ∷ [])) (length ns) ≡ Some n
at-last [] n = refl
at-last (m ∷ ns) n = at-last ns n

pub node_end : (ns : List FormNode) (n : FormNode) → IsFormGraph ns → forms_size ns + node_size n ≤ most_forms → IsTrue (form_comes_after (length ns) n) → IsNewForm ns n → HasNode ns n (ns ++ (n ∷ [])) (length ns)
node_end ns n g few after new = record { graph = graph-end ns n g few after new; interned = (at-last ns n, inr (refl, refl, new)) }

-- the same as the code adds it
pub node_added : (ns : List FormNode) (n : FormNode) (size all k : ℕ) → IsFormGraph ns → IsTrue (form_comes_after (length ns) n) → IsNewForm ns n → size ≡ node_size n → all ≡ forms_size ns → all ≤ most_forms → size ≤ most_forms - all → k ≡ length ns →
    HasNode ns n (take k ns ++ (n ∷ [])) k
node_added ns n size all k g after new size_is all_is few fits place =
    let room : forms_size ns + node_size n ≤ most_forms = omega (arith, size_is, all_is, few, fits) in
    subst (λ (j : ℕ). HasNode ns n (take j ns ++ (n ∷ [])) j) (sym place)
    (subst (λ (ms : List FormNode). HasNode ns n (ms ++ (n ∷ [])) (length ns)) (sym (take-length ns)) (node_end ns n g room after new))

-- a node has a number below that of all
pub below_all_nodes : (ns : List FormNode) (i : ℕ) (n : FormNode) → IsFormGraph ns → slice_get ns i ≡ Some n → i < length ns
below_all_nodes ns i n g h = (in-order-at 0 ns g.ordered i n h).1

module _ (old : List FormNode) (n : FormNode) (new : List FormNode) (k : ℕ) (h : HasNode old n new k) where
  pub node_place : k < length new
  node_place = below_all_nodes new k n h.graph h.interned.0

  pub no_fewer : length old ≤ length new
  no_fewer = elim h.interned.1 [
    | inl e ↦ omega (arith, ap length e)
    | inr e ↦ omega (arith, ap length e.0, length-append old (n ∷ []))
  ]

  pub node_is : form_at (graph_forms new) k ≡ node_form (graph_forms new) n
  node_is = form_node_is_its_kind new h.graph.ordered k n h.interned.0

  pub old_stays : (i : ℕ) → i < length old → form_at (graph_forms new) i ≡ form_at (graph_forms old) i
  old_stays i l = elim h.interned.1 [
    | inl e ↦ ap (λ (ns : List FormNode). form_at (graph_forms ns) i) e
    | inr e ↦
        ap (λ (ns : List FormNode). form_at (graph_forms ns) i) e.0
        ∙ ap (λ fs. form_at fs i) (after-end old [] n)
        ∙ get_or_append_left (graph_forms old) (node_form (graph_forms old) n ∷ []) no_form i (omega (arith, l, length-forms old))
  ]

-- ---- the two nodes

module _ (ns mid : List FormNode) (root j n : ℕ) (within : root < length ns) (first : HasNode ns (atom_node j) mid n) where
  below : (a b : ℕ) → a < b → IsTrue (nat_lt a b)
  below a b h = grind (arith, h)

  -- the second one may be made
  pub both_after : IsTrue (form_comes_after (length mid) (all_node (root ∷ n ∷ [])))
  both_after =
      both_pass (nat_lt root (length mid)) (list_all (λ x. nat_lt x (length mid)) (n ∷ []))
      (below root (length mid) (omega (arith, within, no_fewer ns (atom_node j) mid n first)))
      (both_pass (nat_lt n (length mid)) true (below n (length mid) (node_place ns (atom_node j) mid n first)) refl)

  pub limit_form : (new : List FormNode) (k : ℕ) → HasNode mid (all_node (root ∷ n ∷ [])) new k → IsLimitForm ns root j new k
  limit_form new k last =
      let two : FormNode = all_node (root ∷ n ∷ []) in
      let there = node_place ns (atom_node j) mid n first in
      let more = no_fewer ns (atom_node j) mid n first in
      record {
        there = node_place mid two new k last;
        form =
            node_is mid two new k last
            ∙ ap₂ (λ (f g : Form ℕ). all_form (more_forms f (more_forms g no_forms)))
            (old_stays mid two new k last root (omega (arith, within, more)) ∙ old_stays ns (atom_node j) mid n first root within)
            (old_stays mid two new k last n there ∙ node_is ns (atom_node j) mid n first);
      }
