-- The parts of a problem with a limit.
use Rattle.std.specs.Prelude.{◌≡◌, ℕ, ◌+◌, ◌-◌, ◌*◌, ◌^◌, ◌<◌, ◌≤◌, List, [], ◌∷◌, ◌++◌, length, Bool, true, false, ◌&&◌, Option, Some, None, nat_abs, nat_eq, nat_le}
use Rattle.dyadic.specs.Fraction.{Fraction}
use Rattle.dyadic.specs.Rounding.{Dyadic}
use Rattle.poly_graph.specs.Term.{constant_node, le}
use Rattle.poly_graph.specs.Form.{all_form, atom_is, more_forms, no_forms}
use Rattle.poly_graph.specs.FormGraph.{FormNode, FormInterned, IsFormGraph, form_at, graph_forms}
use Rattle.poly_graph.specs.Problem.{atom_at}
use Rattle.poly_graph.specs.ProblemViews.{Parts, problem_of}
use Rattle.cert_model.specs.Limited.{limit_size, limit_nodes, is_limit, scale_of, offset_of, has_constant}

-- n steps make up u, and are of a size that is kept; none where no number of that size does
abbrev pub IsCount : ℕ → ℕ → Option ℕ → Type 0
IsCount u step None = (n : ℕ) → n * step ≡ u → 10 ^ 36 < n
IsCount u step (Some n) = (n * step ≡ u) × (n ≤ 10 ^ 36)

-- d is a multiple of 2^-k of a size that is kept
abbrev pub is_multiple : ℕ → Dyadic → Bool
is_multiple k d = nat_eq (limit_size k d * 2 ^ (120 - k)) (nat_abs d.units) && nat_le (limit_size k d) (10 ^ 36)

-- the constants of the limit, both of them new
pub record AreConstants (q : Parts) (k : ℕ) (d : Dyadic) (scale offset : Fraction) : Type 0 where
  pub limit : is_limit (problem_of q) k d ≡ true
  pub scale_is : scale ≡ scale_of k
  pub offset_is : offset ≡ offset_of k d
  pub new_scale : has_constant q.nodes scale ≡ false
  pub new_offset : has_constant (constant_node scale ∷ q.nodes) offset ≡ false

-- a shared form with this node, which stood there or was added at the end under number k
pub record HasNode (old : List FormNode) (n : FormNode) (new : List FormNode) (k : ℕ) : Type 0 where
  pub graph : IsFormGraph new
  pub interned : FormInterned old new n k

-- number k is that of the root of the old form and of atom j together
pub record IsLimitForm (old : List FormNode) (root j : ℕ) (new : List FormNode) (k : ℕ) : Type 0 where
  pub there : k < length new
  pub form : form_at (graph_forms new) k ≡ all_form (more_forms (form_at (graph_forms old) root) (more_forms (atom_is j) no_forms))

-- the parts of the problem with a limit, where its form and the root of that are these
abbrev pub limit_parts : Parts → ℕ → Fraction → Fraction → List FormNode → ℕ → Parts
limit_parts q g scale offset forms root = record {
  axes = q.axes;
  nodes = q.nodes ++ limit_nodes (length q.nodes) (atom_at (problem_of q) g).0 scale offset;
  atoms = q.atoms ++ ((length q.nodes + 3, le) ∷ []);
  forms = forms;
  root = root;
}
