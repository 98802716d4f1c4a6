-- What was made first stands first, so a builder that goes back has what it had.
use Rattle.std.proofs.Common.{◌≡◌, ℕ, suc, zero, ◌+◌, ◌≤◌, List, [], ◌∷◌, ◌++◌, map, length, take, Some, refl, ap, ap₂, sym, ◌∙◌, arith, length-append}
use Rattle.std.proofs.Math.Seq.{take-append_seam}
use Rattle.std.proofs.lemmas.List.{take-map, map-append}
use Rattle.std.specs.Prelude.{slice_get, All}
use Rattle.dyadic.specs.Fraction.{zero_fraction}
use Rattle.dyadic.specs.Point
use Rattle.dyadic.specs.Point.{real_sort, bool_sort}
use Rattle.poly_graph.specs.Term.{Term, constant, Node, constant_node, variable_node, negate_node, add_node, multiply_node, square_node, node_term, graph_terms, Kind, Atom}
use Rattle.poly_graph.specs.Form.{Form, no_form}
use Rattle.poly_graph.specs.FormGraph.{FormNode, yes_node, no_node, atom_node, bool_node, all_node, any_node, node_form, graph_forms, form_at, IsFormGraph}
use Rattle.poly_graph.specs.Problem.{IsNode, HasSort}
use Rattle.poly_graph.specs.Shared.{IsGraph}
use Rattle.poly_graph.proofs.Graphs.{term_at, same_term, in_order_at, length_terms}
use Rattle.poly_graph.proofs.Same.{one_number}
use Rattle.poly_graph.proofs.FormGraphs.{same_form}
use Rattle.smt_script.specs.Views.{sort_of}
use Rattle.smt_script.specs.declared.command.Sort.{Sort}
use Rattle.term_build.specs.Built.{BuilderModel, IsFormNode, IsAtomOf, IsMade, full_atom, stand_of}
use Rattle.term_build.specs.Marks.{counts_of, counts_in, taken, with_sort}
use Rattle.term_build.specs.Settled.{Extends}
use Rattle.term_build.specs.declared.mark.Mark.{Mark}
use Rattle.term_build.proofs.Forms as form
use Rattle.term_build.proofs.Forms.{length_forms, form_there, one_form, same_by_children}
use Rattle.term_build.proofs.Lists.{get_below, get_before, index_before, stood, all_head, all_tail, all_more}
use Rattle.term_build.proofs.Trees.{tree_at, same_node, atoms_kept}

-- ---- one list begins with another

some-same : {X : Type 0} (x y : X) → Some x ≡ Some y → x ≡ y
some-same x y h = cc

same-begin : {X : Type 0} (xs ys : List X) → length xs ≤ length ys → ((k : ℕ) (x : X) → slice_get xs k ≡ Some x → slice_get ys k ≡ Some x) → take (length xs) ys ≡ xs
same-begin [] ys l f = refl
same-begin (x ∷ xs) [] l f = absurd (omega (arith, l))
same-begin (x ∷ xs) (y ∷ ys) l f = ap₂ (λ z zs. z ∷ zs) (some-same y x (f zero x refl)) (same-begin xs ys (omega (arith, l)) (λ k z h. f (suc k) z h))

-- ---- nodes whose trees are the first ones are the first nodes

module _ (ms ns : List Node) (g : IsGraph ms) (h : IsGraph ns) (ts : List Term) (e : graph_terms ns ≡ graph_terms ms ++ ts) where
  pub no_fewer : length ms ≤ length ns
  no_fewer = let n : length (graph_terms ns) ≡ length (graph_terms ms) + length ts = ap length e ∙ length-append (graph_terms ms) ts in omega (arith, length_terms ms, length_terms ns, n)

  node-stays : (k : ℕ) (m : Node) → slice_get ms k ≡ Some m → slice_get ns k ≡ Some m
  node-stays k m i =
      let below = get_below ms k m i in
      let n = stood ns k (omega (arith, below, no_fewer)) in
      let after-m = in_order_at 0 ms g.ordered k m i in
      let after-n = in_order_at 0 ns h.ordered k n.0 n.1 in
      let there : slice_get (graph_terms ns) k ≡ Some (node_term (graph_terms ms) m) = ap (λ xs. slice_get xs k) e ∙ get_before (graph_terms ms) ts k (node_term (graph_terms ms) m) (tree_at ms g k m i) in
      let tree : node_term (graph_terms ns) n.0 ≡ node_term (graph_terms ms) m = some-same _ _ (sym (tree_at ns h k n.0 n.1) ∙ there) in
      let over : node_term (graph_terms ns) n.0 ≡ node_term (graph_terms ms) n.0 = same_term n.0 (0 + k) (graph_terms ns) (graph_terms ms) after-n.0
      (λ j l. ap (λ xs. term_at xs j) e ∙ index_before (graph_terms ms) ts j (constant zero_fraction) (omega (arith, l, below, length_terms ms))) in
      n.1 ∙ ap (λ x. Some x) (same_node ms g (0 + k) (0 + k) n.0 m (omega (arith, below)) (omega (arith, below)) after-n.0 after-m.0 (sym over ∙ tree))

  pub nodes_begin : take (length ms) ns ≡ ms
  nodes_begin = same-begin ms ns no_fewer node-stays

-- ---- the same of forms

module _ (ms ns : List FormNode) (g : IsFormGraph ms) (h : IsFormGraph ns) (fs : List (Form ℕ)) (e : graph_forms ns ≡ graph_forms ms ++ fs) where
  no-fewer-forms : length ms ≤ length ns
  no-fewer-forms = let n : length (graph_forms ns) ≡ length (graph_forms ms) + length fs = ap length e ∙ length-append (graph_forms ms) fs in omega (arith, length_forms ms, length_forms ns, n)

  form-stays : (k : ℕ) (m : FormNode) → slice_get ms k ≡ Some m → slice_get ns k ≡ Some m
  form-stays k m i =
      let below = get_below ms k m i in
      let n = stood ns k (omega (arith, below, no-fewer-forms)) in
      let after-m = form.in_order_at 0 ms g.ordered k m i in
      let after-n = form.in_order_at 0 ns h.ordered k n.0 n.1 in
      let there : slice_get (graph_forms ns) k ≡ Some (node_form (graph_forms ms) m) = ap (λ xs. slice_get xs k) e ∙ get_before (graph_forms ms) fs k (node_form (graph_forms ms) m) (form_there ms g k m i) in
      let same : node_form (graph_forms ns) n.0 ≡ node_form (graph_forms ms) m = some-same _ _ (sym (form_there ns h k n.0 n.1) ∙ there) in
      let over : node_form (graph_forms ns) n.0 ≡ node_form (graph_forms ms) n.0 = same_form n.0 (0 + k) (graph_forms ns) (graph_forms ms) after-n
      (λ j l. ap (λ xs. form_at xs j) e ∙ index_before (graph_forms ms) fs j no_form (omega (arith, l, below, length_forms ms))) in
      n.1 ∙ ap (λ x. Some x) (same_by_children (graph_forms ms) (0 + k) (0 + k) n.0 m after-n after-m
      (λ x y l r s. one_form ms g x y (omega (arith, l, below)) (omega (arith, r, below)) s) (sym over ∙ same))

  pub forms_begin : take (length ms) ns ≡ ms
  forms_begin = same-begin ms ns no-fewer-forms form-stays

-- ---- the same of atoms

full-same : (ns : List Node) → IsGraph ns → (a b : ℕ × Kind) → IsAtomOf ns a → IsAtomOf ns b → full_atom (graph_terms ns) a ≡ full_atom (graph_terms ns) b → a ≡ b
full-same ns g (j, kind) (k, kind') h i e = ap₂ (λ (x : ℕ) (y : Kind). (x, y)) (one_number ns g j k h i (ap (λ (a : Atom). a.0) e)) (ap (λ (a : Atom). a.1) e)

first-of : {X : Type 0} (x y : X) (xs ys : List X) → x ∷ xs ≡ y ∷ ys → (x ≡ y) × (xs ≡ ys)
first-of x y xs ys h = (cc, cc)

pub atoms_begin : (ns : List Node) → IsGraph ns → (old new : List (ℕ × Kind)) (xs : List Atom) → All (IsAtomOf ns) old → All (IsAtomOf ns) new →
    map (full_atom (graph_terms ns)) new ≡ map (full_atom (graph_terms ns)) old ++ xs → take (length old) new ≡ old
atoms_begin ns g [] new xs h i e = refl
atoms_begin ns g (a ∷ old) [] xs h i e = cc
atoms_begin ns g (a ∷ old) (b ∷ new) xs h i e =
    let p = first-of _ _ _ _ e in
    ap₂ (λ y ys. y ∷ ys) (full-same ns g b a (all_head (IsAtomOf ns) b new i) (all_head (IsAtomOf ns) a old h) p.0)
    (atoms_begin ns g old new xs (all_tail (IsAtomOf ns) a old h) (all_tail (IsAtomOf ns) b new i) p.1)

-- ---- a builder that goes back to what it had

-- one that has grown has what it had where it goes back
pub taken_back : (m n : BuilderModel) → IsMade m → IsMade n → Extends (stand_of m) (stand_of n) → (more : List Point.Sort) → n.sorts ≡ m.sorts ++ more → taken (counts_of m) n ≡ m
taken_back m n h i e more s =
    let ts = e.trees.0 in
    let fewer = no_fewer m.nodes n.nodes h.graph i.graph ts e.trees.1 in
    let sorts : take (length m.sorts) n.sorts ≡ m.sorts = ap (take (length m.sorts)) s ∙ take-append_seam m.sorts more in
    let nodes = nodes_begin m.nodes n.nodes h.graph i.graph ts e.trees.1 in
    let forms = forms_begin m.forms n.forms h.shared i.shared e.forms.0 e.forms.1 in
    let old : map (full_atom (graph_terms m.nodes)) m.atoms ≡ map (full_atom (graph_terms n.nodes)) m.atoms = atoms_kept m.nodes ts m.atoms h.atoms ∙ ap (λ us. map (full_atom us) m.atoms) (sym e.trees.1) in
    let atoms = atoms_begin n.nodes i.graph m.atoms n.atoms e.atoms.0 (all_more (IsAtomOf m.nodes) (IsAtomOf n.nodes) m.atoms (λ a b. omega (arith, b, fewer)) h.atoms) i.atoms
    (e.atoms.1 ∙ ap (λ xs. xs ++ e.atoms.0) old) in
    λ j. record { sorts = sorts j; size = m.size; nodes = nodes j; atoms = atoms j; forms = forms j }

-- ---- what the fields of a builder are

pub undone : (m : BuilderModel) (k : Mark) (sorts sorts' : List Sort) (size : ℕ) (nodes nodes' : List Node) (atoms atoms' : List (ℕ × Kind)) (forms forms' : List FormNode) →
    record { sorts = map sort_of sorts; size = size; nodes = nodes; atoms = atoms; forms = forms } ≡ m → sorts' ≡ take k.sorts sorts → nodes' ≡ take k.nodes nodes → atoms' ≡ take k.atoms atoms → forms' ≡ take k.forms forms →
    record { sorts = map sort_of sorts'; size = k.size; nodes = nodes'; atoms = atoms'; forms = forms' } ≡ taken (counts_in k) m
undone m k sorts sorts' size nodes nodes' atoms atoms' forms forms' v a b d f =
    let s : map sort_of sorts' ≡ take k.sorts (map sort_of sorts) = ap (map sort_of) a ∙ sym (take-map sort_of k.sorts sorts) in
    let e : record { sorts = map sort_of sorts'; size = k.size; nodes = nodes'; atoms = atoms'; forms = forms' } ≡ taken (counts_in k) (record { sorts = map sort_of sorts; size = size; nodes = nodes; atoms = atoms; forms = forms }) =
    λ i. record { sorts = s i; size = k.size; nodes = b i; atoms = d i; forms = f i } in
    e ∙ ap (taken (counts_in k)) v

-- ---- one more constant

pub has_sort_more : (s t : Point.Sort) (sorts : List Point.Sort) (i : ℕ) → HasSort s sorts i → HasSort s (sorts ++ (t ∷ [])) i
has_sort_more s t [] i h = absurd h
has_sort_more real_sort t (real_sort ∷ sorts) zero h = tt
has_sort_more bool_sort t (bool_sort ∷ sorts) zero h = tt
has_sort_more real_sort t (bool_sort ∷ sorts) zero h = absurd h
has_sort_more bool_sort t (real_sort ∷ sorts) zero h = absurd h
has_sort_more real_sort t (real_sort ∷ sorts) (suc i) h = has_sort_more real_sort t sorts i h
has_sort_more bool_sort t (bool_sort ∷ sorts) (suc i) h = has_sort_more bool_sort t sorts i h
has_sort_more real_sort t (bool_sort ∷ sorts) (suc i) h = has_sort_more real_sort t sorts i h
has_sort_more bool_sort t (real_sort ∷ sorts) (suc i) h = has_sort_more bool_sort t sorts i h

node-more : (t : Point.Sort) (sorts : List Point.Sort) (n : Node) → IsNode sorts n → IsNode (sorts ++ (t ∷ [])) n
node-more t sorts (constant_node q) h = h
node-more t sorts (variable_node axis) h = has_sort_more real_sort t sorts axis h
node-more t sorts (negate_node a) h = tt
node-more t sorts (add_node a b) h = tt
node-more t sorts (multiply_node a b) h = tt
node-more t sorts (square_node a) h = tt

form-node-more : (t : Point.Sort) (sorts : List Point.Sort) (n : ℕ) (x : FormNode) → IsFormNode sorts n x → IsFormNode (sorts ++ (t ∷ [])) n x
form-node-more t sorts n yes_node h = tt
form-node-more t sorts n no_node h = tt
form-node-more t sorts n (atom_node j) h = h
form-node-more t sorts n (bool_node axis v) h = has_sort_more bool_sort t sorts axis h
form-node-more t sorts n (all_node ks) h = tt
form-node-more t sorts n (any_node ks) h = tt

pub sort_made : (m : BuilderModel) (t : Point.Sort) → IsMade m → IsMade (with_sort m t)
sort_made m t h = record {
  few = h.few;
  graph = h.graph;
  nodes = all_more (IsNode m.sorts) (IsNode (m.sorts ++ (t ∷ []))) m.nodes (λ n i. node-more t m.sorts n i) h.nodes;
  table = h.table;
  atoms = h.atoms;
  shared = h.shared;
  forms = all_more (IsFormNode m.sorts (length m.atoms)) (IsFormNode (m.sorts ++ (t ∷ [])) (length m.atoms)) m.forms (λ n i. form-node-more t m.sorts (length m.atoms) n i) h.forms;
}

pub sort_added : (m : BuilderModel) (t : Sort) (sorts sorts' : List Sort) (size : ℕ) (nodes : List Node) (atoms : List (ℕ × Kind)) (forms : List FormNode) →
    record { sorts = map sort_of sorts; size = size; nodes = nodes; atoms = atoms; forms = forms } ≡ m → sorts' ≡ sorts ++ (t ∷ []) →
    record { sorts = map sort_of sorts'; size = size; nodes = nodes; atoms = atoms; forms = forms } ≡ with_sort m (sort_of t)
sort_added m t sorts sorts' size nodes atoms forms v e =
    let s : map sort_of sorts' ≡ map sort_of sorts ++ (sort_of t ∷ []) = ap (map sort_of) e ∙ map-append sort_of sorts (t ∷ []) in
    let r : record { sorts = map sort_of sorts'; size = size; nodes = nodes; atoms = atoms; forms = forms } ≡ with_sort (record { sorts = map sort_of sorts; size = size; nodes = nodes; atoms = atoms; forms = forms }) (sort_of t) =
    λ i. record { sorts = s i; size = size; nodes = nodes; atoms = atoms; forms = forms } in
    r ∙ ap (λ x. with_sort x (sort_of t)) v
