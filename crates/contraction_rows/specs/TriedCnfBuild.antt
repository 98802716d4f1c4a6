-- The problems that the tests try: five atoms, and two Bool axes.
use Rattle.std.specs.Prelude.{ℕ, List, [], ◌∷◌, Bool, true, pos, nat_lt}
use Rattle.std.specs.List.{list_all}
use Rattle.dyadic.specs.Fraction.{Fraction}
use Rattle.poly_graph.specs.Term.{Node, constant_node, Kind, le}
use Rattle.poly_graph.specs.FormGraph.{FormNode, atom_node, bool_node}
use Rattle.poly_graph.specs.Problem.{Axis, any_bool}

abbrev pub nought : Fraction
nought = record { num = pos 0; den = 1 }

abbrev pub tried_nodes : List Node
tried_nodes = constant_node nought ∷ []

abbrev pub tried_atoms : List (ℕ × Kind)
tried_atoms = (0, le) ∷ ((0, le) ∷ ((0, le) ∷ ((0, le) ∷ ((0, le) ∷ []))))

abbrev pub tried_axis : Axis
tried_axis = record { name = []; declared = any_bool }

abbrev pub tried_axes : List Axis
tried_axes = tried_axis ∷ (tried_axis ∷ [])

-- it names one of the atoms, or one of the axes
abbrev pub is_known : FormNode → Bool
is_known (atom_node j) = nat_lt j 5
is_known (bool_node i v) = nat_lt i 2
is_known n = true

abbrev pub are_known : List FormNode → Bool
are_known nodes = list_all is_known nodes
