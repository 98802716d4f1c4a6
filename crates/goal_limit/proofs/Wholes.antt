-- A problem with a limit is whole.
use Rattle.std.proofs.Common.{◌≡◌, ℕ, ◌+◌, ◌<◌, ◌≤◌, List, [], ◌∷◌, length, sym, subst, arith, drop, length-append}
use Rattle.std.proofs.lemmas.List.Elements.{All-append, All-cons, All-nil}
use Rattle.std.specs.Prelude.{All}
use Rattle.dyadic.specs.Fraction.{Fraction}
use Rattle.dyadic.specs.Point.{Sort}
use Rattle.poly_graph.specs.Term.{Node, Kind, le, constant_node, multiply_node, add_node}
use Rattle.poly_graph.specs.Form.{Form, Forms, yes_form, no_form, atom_is, bool_is, all_form, any_form, no_forms, more_forms}
use Rattle.poly_graph.specs.FormGraph.{FormNode}
use Rattle.poly_graph.specs.Shared.{IsGraph}
use Rattle.poly_graph.specs.Problem.{Problem, IsForm, AreForms, IsNode, IsConstant, atom_at, sorts_of_axes, no_place}
use Rattle.poly_graph.specs.ProblemViews.{Parts, problem_of, IsWhole}
use Rattle.cert_model.specs.Limited.{limit_nodes, with_limit}
use Rattle.goal_limit.specs.Made.{IsLimitForm, limit_parts}

mutual
  form-more : (sorts : List Sort) (m n : ℕ) → m ≤ n → (f : Form ℕ) → IsForm sorts m f → IsForm sorts n f
  form-more sorts m n h yes_form i = tt
  form-more sorts m n h no_form i = tt
  form-more sorts m n h (atom_is j) i = omega (arith, h, i)
  form-more sorts m n h (bool_is axis v) i = i
  form-more sorts m n h (all_form fs) i = forms-more sorts m n h fs i
  form-more sorts m n h (any_form fs) i = forms-more sorts m n h fs i

  forms-more : (sorts : List Sort) (m n : ℕ) → m ≤ n → (fs : Forms ℕ) → AreForms sorts m fs → AreForms sorts n fs
  forms-more sorts m n h no_forms i = tt
  forms-more sorts m n h (more_forms f fs) i = (form-more sorts m n h f i.0, forms-more sorts m n h fs i.1)

-- the term of an atom stands in the graph
pub goal_within : (q : Parts) (g : ℕ) → IsWhole q → g < length q.atoms → (atom_at (problem_of q) g).0 < length q.nodes
goal_within q g w h = w.problem.atoms g no_place h

module _ (q : Parts) (g : ℕ) (a b : Fraction) (forms : List FormNode) (root : ℕ) (w : IsWhole q) (made : IsLimitForm q.forms q.root (length q.atoms) forms root) where
  abbrev p : Problem
  p = problem_of (limit_parts q g a b forms root)

  abbrev sorts : List Sort
  sorts = sorts_of_axes q.axes

  abbrev four : List Node
  four = limit_nodes (length q.nodes) (atom_at (problem_of q) g).0 a b

  are-nodes : IsConstant a → IsConstant b → All (IsNode sorts) p.nodes
  are-nodes ca cb = All-append (IsNode sorts) q.nodes four w.problem.nodes
      (All-cons (IsNode sorts) (constant_node a) (drop 1 four) ca (All-cons (IsNode sorts) (multiply_node (length q.nodes) (atom_at (problem_of q) g).0) (drop 2 four) tt
      (All-cons (IsNode sorts) (constant_node b) (drop 3 four) cb (All-cons (IsNode sorts) (add_node (length q.nodes + 1) (length q.nodes + 2)) [] tt (All-nil (IsNode sorts))))))

  abbrev Stands : ℕ × Kind → Type 0
  Stands x = x.0 < length p.nodes

  nodes-length : length p.nodes ≡ length q.nodes + 4
  nodes-length = length-append q.nodes (limit_nodes (length q.nodes) (atom_at (problem_of q) g).0 a b)

  are-atoms : All Stands p.atoms
  are-atoms = All-append Stands q.atoms ((length q.nodes + 3, le) ∷ []) (λ k d h. let i = w.problem.atoms k d h in omega (arith, i, nodes-length))
      (All-cons Stands (length q.nodes + 3, le) [] (omega (arith, nodes-length)) (All-nil Stands))

  atoms-length : length p.atoms ≡ length q.atoms + 1
  atoms-length = length-append q.atoms ((length q.nodes + 3, le) ∷ [])

  is-form : IsForm sorts (length p.atoms) p.form
  is-form = subst (IsForm sorts (length p.atoms)) (sym made.form)
      (form-more sorts (length q.atoms) (length p.atoms) (omega (arith, atoms-length)) (problem_of q).form w.problem.form, (omega (arith, atoms-length), tt))

  pub limit_whole : IsConstant a → IsConstant b → IsGraph p.nodes → IsWhole (limit_parts q g a b forms root)
  limit_whole ca cb graph = record {
    problem = record { bounds = w.problem.bounds; ordered = graph.ordered; nodes = are-nodes ca cb; atoms = are-atoms; form = is-form };
    root = made.there;
  }

-- its problem is the problem with the limit
pub limit_problem : (q : Parts) (g : ℕ) (a b : Fraction) (forms : List FormNode) (root : ℕ) → IsLimitForm q.forms q.root (length q.atoms) forms root → problem_of (limit_parts q g a b forms root) ≡ with_limit (problem_of q) g a b
limit_problem q g a b forms root made = λ i. record {
  axes = q.axes;
  nodes = (limit_parts q g a b forms root).nodes;
  atoms = (limit_parts q g a b forms root).atoms;
  form = made.form i;
}
