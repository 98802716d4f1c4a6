-- The code's parts of a problem as the definitions see them.
use Rattle.std.specs.Prelude.{ℕ, ◌<◌, List, map, length}
use Rattle.dyadic.specs.Views.{fraction_of_frac}
use Rattle.poly_graph.specs.declared.axis.Declared.{Declared}
use Rattle.poly_graph.specs.declared.axis.Declared.TheVariants as declared
use Rattle.poly_graph.specs.declared.axis.Axis.{Axis}
use Rattle.poly_graph.specs.declared.node.Atom.{Atom}
use Rattle.poly_graph.specs.Term.{Node, Kind}
use Rattle.poly_graph.specs.FormGraph.{FormNode, form_at, graph_forms}
use Rattle.poly_graph.specs.Problem
use Rattle.poly_graph.specs.Problem.{real_between, any_bool, IsProblem}
use Rattle.poly_graph.specs.Views.{atom_of}

abbrev pub declared_of : Declared → Problem.Declared
declared_of (declared.Real l h) = real_between (fraction_of_frac l) (fraction_of_frac h)
declared_of declared.Bool = any_bool

abbrev pub axis_of : Axis → Problem.Axis
axis_of a = record { name = a.name.items; declared = declared_of a.declared }

-- the parts of a problem, its form as a shared one with the number of its root
pub record Parts : Type 0 where
  pub axes : List Problem.Axis
  pub nodes : List Node
  pub atoms : List (ℕ × Kind)
  pub forms : List FormNode
  pub root : ℕ

-- the problem of these parts
abbrev pub problem_of : Parts → Problem.Problem
problem_of p = record {
  axes = p.axes;
  nodes = p.nodes;
  atoms = p.atoms;
  form = form_at (graph_forms p.forms) p.root;
}

-- a whole problem
pub record IsWhole (p : Parts) : Type 0 where
  pub problem : IsProblem (problem_of p)
  pub root : p.root < length p.forms

abbrev pub parts_of : List Axis → List Node → List Atom → List FormNode → ℕ → Parts
parts_of axes nodes atoms forms root = record { axes = map axis_of axes; nodes = nodes; atoms = map atom_of atoms; forms = forms; root = root }
