-- The parts of a problem with a limit, as the code has them.
use Rattle.std.proofs.Common.{◌≡◌, ℕ, ◌+◌, ◌<◌, List, [], ◌∷◌, ◌++◌, length, map, ap, ap₂, sym, ◌∙◌, subst, arith}
use Rattle.std.proofs.lemmas.Int.{ints}
use Rattle.std.specs.List.{AllZip}
use Rattle.std.proofs.lemmas.List.{length-map, get_or-map}
use Rattle.std.specs.Prelude.{slice_index_or}
use Rattle.dyadic.specs.Fraction.{Fraction}
use Rattle.dyadic.specs.Views.{fraction_of_frac}
use Rattle.dyadic.specs.declared.frac.Frac.{Frac}
use Rattle.poly_graph.specs.contracts.axis.AxisClone.TheImpl as axis_clone
use Rattle.poly_graph.specs.declared.axis.Axis as code_axis
use Rattle.poly_graph.specs.declared.node.Atom as code_atom
use Rattle.poly_graph.specs.Term.{Node, Kind, le}
use Rattle.poly_graph.specs.FormGraph.{FormNode}
use Rattle.poly_graph.specs.Problem.{IsConstant, atom_at, no_place}
use Rattle.poly_graph.specs.ProblemViews.{Parts, problem_of, axis_of, parts_of}
use Rattle.poly_graph.specs.Views.{atom_of}
use Rattle.poly_graph.proofs.Clones.{map_clones, axis_clone_is}
use Rattle.cert_model.specs.Limited.{limit_nodes}
use Rattle.goal_limit.specs.Made.{IsLimitForm, limit_parts}

pub constant_of : (f : Frac) → IsConstant (fraction_of_frac f)
constant_of f = (let p = f.lowest.positive in omega (arith, ints, p), f.lowest.in_lowest_terms, f.lowest.few_digits, f.lowest.few_digits_below)

pub term_is : (q : Parts) (atoms : List code_atom.Atom) (g : ℕ) (d : code_atom.Atom) → map atom_of atoms ≡ q.atoms → g < length q.atoms → (slice_index_or atoms g d).term ≡ (atom_at (problem_of q) g).0
term_is q atoms g d e h = ap (λ (x : ℕ × Kind). x.0) (sym (get_or-map atom_of atoms g d no_place (omega (arith, h, ap length e, length-map atoms atom_of))) ∙ ap (λ (xs : List (ℕ × Kind)). slice_index_or xs g no_place) e)

module _ (q : Parts) (g term n root : ℕ) (a b : Fraction) (axes axes1 : List code_axis.Axis) (graph graph1 : List Node) (atoms atoms1 : List code_atom.Atom) (forms : List FormNode) where
  pub limit_same : AllZip (axis_clone.ghosts).is_clone axes axes1 → map axis_of axes ≡ q.axes → graph1 ≡ graph ++ limit_nodes (length graph) term a b → graph ≡ q.nodes → term ≡ (atom_at (problem_of q) g).0 →
      map atom_of atoms1 ≡ map atom_of atoms ++ ((n + 3, le) ∷ []) → map atom_of atoms ≡ q.atoms → n ≡ length q.nodes → parts_of axes1 graph1 atoms1 forms root ≡ limit_parts q g a b forms root
  limit_same clones axes_are nodes_are graph_is term_is' atoms_are all_are n_is =
      let x = map_clones axis_of (axis_clone.ghosts).is_clone axes axes1 axis_clone_is clones ∙ axes_are in
      let y = nodes_are ∙ ap₂ (λ (ns : List Node) (t : ℕ). ns ++ limit_nodes (length ns) t a b) graph_is term_is' in
      let z = atoms_are ∙ ap₂ (λ (xs : List (ℕ × Kind)) (k : ℕ). xs ++ ((k + 3, le) ∷ [])) all_are n_is in
      λ i. record { axes = x i; nodes = y i; atoms = z i; forms = forms; root = root }

-- the form that was made of the code's parts is that of the problem's
pub made_for : (q : Parts) (forms new : List FormNode) (root atom k : ℕ) (old : List code_atom.Atom) → IsLimitForm forms root atom new k → forms ≡ q.forms → root ≡ q.root → atom ≡ length old → map atom_of old ≡ q.atoms →
    IsLimitForm q.forms q.root (length q.atoms) new k
made_for q forms new root atom k old h form_is root_is atom_is old_are =
    let many : atom ≡ length q.atoms = atom_is ∙ sym (length-map old atom_of) ∙ ap length old_are in
    subst (λ (fs : List FormNode). IsLimitForm fs q.root (length q.atoms) new k) form_is
    (subst (λ (r : ℕ). IsLimitForm forms r (length q.atoms) new k) root_is (subst (λ (j : ℕ). IsLimitForm forms root j new k) many h))
