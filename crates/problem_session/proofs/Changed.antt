-- What a change makes of a problem is the problem of the next check.
use Rattle.std.proofs.Common.{◌≡◌, ℕ, zero, suc, List, [], ◌∷◌, ◌++◌, Bool, take, map, length, Some, refl, ap, ap₂, sym, ◌∙◌, subst}
use Rattle.std.specs.Prelude.{Option, IfOk, Result, Ok, Err, slice_get}
use Rattle.std.specs.List.{AllZip}
use Rattle.std.proofs.lemmas.List.{map-append, take-map}
use Rattle.poly_graph.specs.Term.{Node, Kind}
use Rattle.poly_graph.specs.FormGraph.{FormNode}
use Rattle.poly_graph.specs.FormViews.{form_node_of}
use Rattle.poly_graph.specs.Views.{atom_of, node_of}
use Rattle.poly_graph.specs.contracts.axis.AxisClone.TheImpl as axis_clone
use Rattle.poly_graph.specs.declared.axis.Axis as code_axis
use Rattle.poly_graph.specs.declared.node.Node as code_node
use Rattle.poly_graph.specs.declared.node.Atom as code_atom
use Rattle.poly_graph.specs.declared.form_node.FormNode as code_form
use Rattle.poly_graph.proofs.Clones.{map_clones, axis_clone_is}
use Rattle.poly_graph.specs.ProblemViews.{Parts, axis_of, parts_of}
use Rattle.problem_session.specs.Changes.{made_of, changed, IsChange, problems_from, AreChanges}
use Rattle.problem_session.specs.declared.change.Change.{Change}
use Rattle.problem_session.specs.declared.change.Checked.{Checked}

-- ---- one problem after the other

-- the change makes a problem of the nodes of these parts, whatever its axes and its root are
pub change_of : (p : Parts) (c : Change) → IsChange p c → IsChange (made_of p.nodes p.atoms p.forms) c
change_of p c h = record { nodes = h.nodes; atoms = h.atoms; forms = h.forms; graph = h.graph; shared = h.shared; whole = h.whole }

abbrev pub parts_in : Parts → List Checked → List Parts
parts_in p cs = map (λ (q : Parts × Bool). q.0) (problems_from p cs)

pub length_problems : (p : Parts) (cs : List Checked) → length (problems_from p cs) ≡ length cs
length_problems p [] = refl
length_problems p (c ∷ cs) = ap suc (length_problems (changed p c.change) cs)

pub said_at : (p : Parts) (cs : List Checked) (k : ℕ) (c : Checked) → slice_get cs k ≡ Some c → slice_get (map (λ (q : Parts × Bool). q.1) (problems_from p cs)) k ≡ Some c.extends
said_at p [] k c e = cc
said_at p (d ∷ cs) zero c e = let same : d ≡ c = cc in ap (λ (x : Checked). Some x.extends) same
said_at p (d ∷ cs) (suc k) c e = said_at (changed p d.change) cs k c e

pub first_change : (p : Parts) (cs : List Checked) (c : Checked) → AreChanges p cs → slice_get cs 0 ≡ Some c → IsChange p c.change × (slice_get (parts_in p cs) 0 ≡ Some (changed p c.change))
first_change p [] c h e = cc
first_change p (d ∷ cs) c h e = let same : d ≡ c = cc in
    (subst (λ (x : Checked). IsChange p x.change) same h.0, ap (λ (x : Checked). Some (changed p x.change)) same)

pub next_change : (p : Parts) (cs : List Checked) (k : ℕ) (q : Parts) (c : Checked) → AreChanges p cs → slice_get (parts_in p cs) k ≡ Some q → slice_get cs (suc k) ≡ Some c →
    IsChange q c.change × (slice_get (parts_in p cs) (suc k) ≡ Some (changed q c.change))
next_change p [] k q c h e f = cc
next_change p (d ∷ cs) zero q c h e f = let same : changed p d.change ≡ q = cc in
    subst (λ (x : Parts). IsChange x c.change × (slice_get (parts_in (changed p d.change) cs) 0 ≡ Some (changed x c.change))) same (first_change (changed p d.change) cs c h.1 f)
next_change p (d ∷ cs) (suc k) q c h e f = next_change (changed p d.change) cs k q c h.1 e f

pub made_same : (q : Parts) (nodes : List Node) (atoms : List (ℕ × Kind)) (forms : List FormNode) → nodes ≡ q.nodes → atoms ≡ q.atoms → forms ≡ q.forms → made_of q.nodes q.atoms q.forms ≡ made_of nodes atoms forms
made_same q nodes atoms forms n a f = λ i. record { axes = []; nodes = (sym n) i; atoms = (sym a) i; forms = (sym f) i; root = 0 }

-- what is answered is the problem that stands there
pub stands_there : {E : Type 0} (r : Result Parts E) (q : Parts) (nodes : List Node) (atoms : List (ℕ × Kind)) (forms : List FormNode) (c : Change) (there : Option Parts) → nodes ≡ q.nodes → atoms ≡ q.atoms → forms ≡ q.forms →
    IfOk r (λ p. p ≡ changed (made_of nodes atoms forms) c) → there ≡ Some (changed q c) → IfOk r (λ p. there ≡ Some p)
stands_there (Ok p) q nodes atoms forms c there n a f h e = e ∙ ap Some (ap (λ (x : Parts). changed x c) (made_same q nodes atoms forms n a f) ∙ sym h)
stands_there (Err x) q nodes atoms forms c there n a f h e = tt

-- the parts that a change makes, as the code has them
module _ (x : Change) (graph graph1 : List Node) (ns : List code_node.Node) (atoms old all more : List code_atom.Atom) (forms forms1 : List FormNode) (fs : List code_form.FormNode) (axes axes1 : List code_axis.Axis) where
  pub after_same : AllZip (axis_clone.ghosts).is_clone axes axes1 → axes ≡ x.axes.items → graph1 ≡ take x.kept.nodes graph ++ map node_of ns → ns ≡ x.nodes.items → all ≡ old ++ more → old ≡ take x.kept.atoms atoms → more ≡ x.atoms.items →
      forms1 ≡ take x.kept.forms forms ++ map form_node_of fs → fs ≡ x.forms.items → parts_of axes1 graph1 all forms1 x.root ≡ changed (made_of graph (map atom_of atoms) forms) x
  after_same clones axes_are nodes_are ns_are all_are old_are more_are forms_are fs_are =
      let a = map_clones axis_of (axis_clone.ghosts).is_clone axes axes1 axis_clone_is clones ∙ ap (map axis_of) axes_are in
      let n = nodes_are ∙ ap (λ xs. take x.kept.nodes graph ++ map node_of xs) ns_are in
      let f = forms_are ∙ ap (λ xs. take x.kept.forms forms ++ map form_node_of xs) fs_are in
      let t = ap (map atom_of) (all_are ∙ ap₂ (λ xs ys. xs ++ ys) old_are more_are) ∙ map-append atom_of (take x.kept.atoms atoms) x.atoms.items ∙ ap (λ xs. xs ++ map atom_of x.atoms.items) (sym (take-map atom_of x.kept.atoms atoms)) in
      λ i. record { axes = a i; nodes = n i; atoms = t i; forms = f i; root = x.root }
