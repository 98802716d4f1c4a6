-- What a builder has made.
use Rattle.std.specs.Prelude.{ℕ, ◌<◌, ◌≤◌, List, [], map, length, All, slice_index_or}
use Rattle.dyadic.specs.Fraction.{zero_fraction}
use Rattle.dyadic.specs.Point.{Sort, bool_sort}
use Rattle.poly_graph.specs.Term.{Term, constant, Node, graph_terms, Kind, Atom}
use Rattle.poly_graph.specs.FormGraph.{FormNode, atom_node, bool_node, graph_forms, IsFormGraph}
use Rattle.poly_graph.specs.Problem.{IsNode, HasSort}
use Rattle.poly_graph.specs.Shared.{IsGraph}
use Rattle.poly_graph.specs.AtomTable.{AreAtoms}
use Rattle.script_forms.specs.Walk.{Stand, most_size}

-- the sorts of the constants, how many expressions were reached, and the shared nodes
pub record BuilderModel : Type 0 where
  pub sorts : List Sort
  pub size : ℕ
  pub nodes : List Node
  pub atoms : List (ℕ × Kind)
  pub forms : List FormNode

-- an atom with its term
abbrev pub full_atom : List Term → ℕ × Kind → Atom
full_atom terms (k, kind) = (slice_index_or terms k (constant zero_fraction), kind)

-- the trees, atoms and forms that these nodes are
abbrev pub stand_of : BuilderModel → Stand
stand_of m = record { size = m.size; trees = graph_terms m.nodes; atoms = map (full_atom (graph_terms m.nodes)) m.atoms; forms = graph_forms m.forms }

-- a node of a form names an atom below this number, or a Bool constant
abbrev pub IsFormNode : List Sort → ℕ → FormNode → Type 0
IsFormNode sorts n (atom_node j) = j < n
IsFormNode sorts n (bool_node axis v) = HasSort bool_sort sorts axis
IsFormNode sorts n _ = Unit {0}

abbrev pub IsAtomOf : List Node → ℕ × Kind → Type 0
IsAtomOf nodes a = a.0 < length nodes

pub record IsMade (m : BuilderModel) : Type 0 where
  pub few : m.size ≤ most_size
  pub graph : IsGraph m.nodes
  pub nodes : All (IsNode m.sorts) m.nodes
  pub table : AreAtoms m.atoms
  pub atoms : All (IsAtomOf m.nodes) m.atoms
  pub shared : IsFormGraph m.forms
  pub forms : All (IsFormNode m.sorts (length m.atoms)) m.forms

-- nothing is made yet
abbrev pub begun : List Sort → BuilderModel
begun sorts = record { sorts = sorts; size = 0; nodes = []; atoms = []; forms = [] }
