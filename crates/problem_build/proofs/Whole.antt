-- What a builder made is a whole problem.
use Rattle.std.proofs.Common.{◌≡◌, ℕ, suc, zero, ◌<◌, List, [], ◌∷◌, ◌++◌, length, sym, subst}
use Rattle.std.specs.Prelude.{All}
use Rattle.dyadic.specs.Point.{Sort}
use Rattle.poly_graph.specs.Form.{Form}
use Rattle.poly_graph.specs.FormGraph.{FormNode, yes_node, no_node, atom_node, bool_node, all_node, any_node, form_at, picked, node_form, forms_after, graph_forms}
use Rattle.poly_graph.specs.Problem.{Axis, IsDeclared, IsForm, AreForms, IsNode, sorts_of_axes}
use Rattle.poly_graph.specs.ProblemViews.{IsWhole}
use Rattle.term_build.specs.Built.{BuilderModel, IsMade, IsFormNode}
use Rattle.term_build.proofs.Lists.{all_head, all_tail}
use Rattle.problem_build.specs.Laws.{parts_made}

module _ (sorts : List Sort) (n : ℕ) where
  abbrev Good : List (Form ℕ) → Type 0
  Good fs = (k : ℕ) → IsForm sorts n (form_at fs k)

  picked-good : (fs : List (Form ℕ)) → Good fs → (ks : List ℕ) → AreForms sorts n (picked fs ks)
  picked-good fs g [] = tt
  picked-good fs g (k ∷ ks) = (g k, picked-good fs g ks)

  node-good : (fs : List (Form ℕ)) → Good fs → (d : FormNode) → IsFormNode sorts n d → IsForm sorts n (node_form fs d)
  node-good fs g yes_node h = tt
  node-good fs g no_node h = tt
  node-good fs g (atom_node j) h = h
  node-good fs g (bool_node axis v) h = h
  node-good fs g (all_node ks) h = picked-good fs g ks
  node-good fs g (any_node ks) h = picked-good fs g ks

  end-good : (fs : List (Form ℕ)) → Good fs → (f : Form ℕ) → IsForm sorts n f → Good (fs ++ (f ∷ []))
  end-good [] g f h zero = h
  end-good [] g f h (suc k) = tt
  end-good (x ∷ fs) g f h zero = g zero
  end-good (x ∷ fs) g f h (suc k) = end-good fs (λ i. g (suc i)) f h k

  after-good : (ds : List FormNode) (fs : List (Form ℕ)) → Good fs → All (IsFormNode sorts n) ds → Good (forms_after fs ds)
  after-good [] fs g h = g
  after-good (d ∷ ds) fs g h = after-good ds (fs ++ (node_form fs d ∷ [])) (end-good fs g (node_form fs d) (node-good fs g d (all_head (IsFormNode sorts n) d ds h))) (all_tail (IsFormNode sorts n) d ds h)

  pub forms_good : (ds : List FormNode) → All (IsFormNode sorts n) ds → (k : ℕ) → IsForm sorts n (form_at (graph_forms ds) k)
  forms_good ds h = after-good ds [] (λ k. tt) h

pub whole : (m : BuilderModel) (axes : List Axis) (root : ℕ) → IsMade m → All (λ (a : Axis). IsDeclared a.declared) axes → sorts_of_axes axes ≡ m.sorts → root < length m.forms → IsWhole (parts_made m axes root)
whole m axes root made bounds sorts below = record {
  problem = record {
    bounds = bounds;
    ordered = made.graph.ordered;
    nodes = subst (λ (s : List Sort). All (IsNode s) m.nodes) (sym sorts) made.nodes;
    atoms = made.atoms;
    form = subst (λ (s : List Sort). IsForm s (length m.atoms) (form_at (graph_forms m.forms) root)) (sym sorts) (forms_good m.sorts (length m.atoms) m.forms made.forms root);
  };
  root = below;
}
