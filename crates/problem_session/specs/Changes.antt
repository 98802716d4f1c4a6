-- The problems of a session, each by what is new beside the one before.
use Rattle.std.specs.Prelude.{ℕ, ◌≤◌, List, [], ◌∷◌, ◌++◌, Bool, map, take, length}
use Rattle.poly_graph.specs.Term.{Node, Kind}
use Rattle.poly_graph.specs.FormGraph.{FormNode, IsFormGraph}
use Rattle.poly_graph.specs.FormViews.{form_node_of}
use Rattle.poly_graph.specs.ProblemViews.{Parts, IsWhole, axis_of}
use Rattle.poly_graph.specs.Shared.{IsGraph}
use Rattle.poly_graph.specs.Views.{atom_of, node_of}
use Rattle.problem_session.specs.declared.change.Change.{Change}
use Rattle.problem_session.specs.declared.change.Checked.{Checked}

abbrev pub no_parts : Parts
no_parts = record { axes = []; nodes = []; atoms = []; forms = []; root = 0 }

-- parts without axes and root
abbrev pub made_of : List Node → List (ℕ × Kind) → List FormNode → Parts
made_of nodes atoms forms = record { axes = []; nodes = nodes; atoms = atoms; forms = forms; root = 0 }

-- what is kept of a problem, and then what is new
abbrev pub changed : Parts → Change → Parts
changed p c = record {
  axes = map axis_of c.axes.items;
  nodes = take c.kept.nodes p.nodes ++ map node_of c.nodes.items;
  atoms = take c.kept.atoms p.atoms ++ map atom_of c.atoms.items;
  forms = take c.kept.forms p.forms ++ map form_node_of c.forms.items;
  root = c.root;
}

-- the change makes a problem of these parts
pub record IsChange (p : Parts) (c : Change) : Type 0 where
  pub nodes : c.kept.nodes ≤ length p.nodes
  pub atoms : c.kept.atoms ≤ length p.atoms
  pub forms : c.kept.forms ≤ length p.forms
  pub graph : IsGraph (changed p c).nodes
  pub shared : IsFormGraph (changed p c).forms
  pub whole : IsWhole (changed p c)

-- the problems that changes make one of another, the first one of these parts, each with what is said of its check
abbrev pub problems_from : Parts → List Checked → List (Parts × Bool)
problems_from p [] = []
problems_from p (c ∷ rest) = (changed p c.change, c.extends) ∷ problems_from (changed p c.change) rest

abbrev pub AreChanges : Parts → List Checked → Type 0
AreChanges p [] = Unit {0}
AreChanges p (c ∷ rest) = IsChange p c.change × AreChanges (changed p c.change) rest
