-- Atoms and form of a script.
use Rattle.std.specs.Prelude.{ℕ, suc, List, [], ◌∷◌, ◌++◌, Bool, true, false, ◌&&◌, Option, Some, None, cond, slice_index_or}
use Rattle.dyadic.specs.Fraction.{Fraction}
use Rattle.dyadic.specs.Point.{Sort, real_sort, bool_sort, Coordinate}
use Rattle.script_model.specs.Script.{Command, claims, goals, first_of, sorts_of}
use Rattle.script_model.specs.Declared.{numbered}
use Rattle.poly_graph.specs.Term.{Term, variable, Kind, le, ge, eq, Atom, atom_holds}
use Rattle.poly_graph.specs.Form.{Form, bool_is, all_form, form_truth, form_atoms, form_map}
use Rattle.poly_graph.specs.Problem.{no_atom, bool_holds}
use Rattle.script_forms.specs.Terms.{Unfolded, term, formula, refused, Fault, Comparison, same_term, comparison_tree}
use Rattle.script_forms.specs.Unfolded.{as_tree, forms_of, truth_of, term_in}

-- a declared constant, by its number
abbrev pub constant_tree : ℕ → Sort → Unfolded
constant_tree axis real_sort = term (variable axis)
constant_tree axis bool_sort = formula (bool_is axis true) (bool_is axis false)

-- the assertions, unfolded
abbrev pub trees : List Command → List Unfolded
trees script = claims as_tree [] (numbered constant_tree 0 (sorts_of script)) script

-- the whole form, with its comparisons in place
abbrev pub whole_form : List Command → Form Comparison
whole_form script = all_form (forms_of truth_of (trees script))

-- ---- the second walk: the terms of the comparisons that stand in an assertion's form

abbrev pub fault_of : Unfolded → Option Fault
fault_of (refused x) = Some x
fault_of u = None

abbrev pub comparison_fault : Comparison → Option Fault
comparison_fault c = fault_of (comparison_tree c)

abbrev pub or_next : Option Fault → Option Fault → Option Fault
or_next (Some x) next = Some x
or_next None next = next

-- the first fault, in the order in which the form is made
abbrev pub comparisons_fault : List Comparison → Option Fault
comparisons_fault [] = None
comparisons_fault (c ∷ rest) = or_next (comparison_fault c) (comparisons_fault rest)

-- of an assertion: what its unfolding meets, else what the making of its form meets
abbrev pub tree_fault : Unfolded → Option Fault
tree_fault (refused x) = Some x
tree_fault u = comparisons_fault (form_atoms (truth_of u))

abbrev pub trees_fault : List Unfolded → Option Fault
trees_fault [] = None
trees_fault (u ∷ rest) = or_next (tree_fault u) (trees_fault rest)

-- the first fault of the unfolding of a script's assertions
abbrev pub unfolding_fault : List Command → Option Fault
unfolding_fault script = trees_fault (trees script)

-- ---- atoms

-- the atom of a comparison without a fault
abbrev pub atom_of : Comparison → Atom
atom_of c = (term_in (comparison_tree c), c.kind)

-- the whole form, with its atoms in place
abbrev pub atoms_in_place : List Command → Form Atom
atoms_in_place script = form_map atom_of (whole_form script)

abbrev pub same_kind : Kind → Kind → Bool
same_kind le le = true
same_kind ge ge = true
same_kind eq eq = true
same_kind _ _ = false

abbrev pub same_atom : Atom → Atom → Bool
same_atom a b = same_term a.0 b.0 && same_kind a.1 b.1

abbrev pub already : Atom → List Atom → Bool
already a [] = false
already a (b ∷ rest) = cond (same_atom a b) true (already a rest)

-- each atom once, where it first appears, after those that were seen
abbrev pub firsts : List Atom → List Atom → List Atom
firsts seen [] = seen
firsts seen (a ∷ rest) = firsts (cond (already a seen) seen (seen ++ (a ∷ []))) rest

-- the number of an atom
abbrev pub number_in : List Atom → Atom → ℕ
number_in [] a = 0
number_in (b ∷ rest) a = cond (same_atom a b) 0 (suc (number_in rest a))

-- the atoms of a script, in order of first appearance
abbrev pub script_atoms : List Command → List Atom
script_atoms script = firsts [] (form_atoms (atoms_in_place script))

-- the form of a script, with the numbers of its atoms
abbrev pub script_form : List Command → Form ℕ
script_form script = form_map (number_in (script_atoms script)) (atoms_in_place script)

-- ---- the goal

-- the goal's term; none where there is no goal, and where it holds a Real `ite`
abbrev pub only_term : Option Unfolded → Option Term
only_term (Some (term t)) = Some t
only_term _ = None

abbrev pub goal_term : List Command → Option Term
goal_term script = only_term (first_of (goals as_tree [] (numbered constant_tree 0 (sorts_of script)) script))

-- the goal stands among the assertions with the atom that its term is at most 0
abbrev pub numbered_goal : List Atom → Option Term → Option ℕ
numbered_goal atoms None = None
numbered_goal atoms (Some t) = Some (number_in atoms (t, le))

-- the number of the atom whose term is the goal
abbrev pub goal_atom : List Command → Option ℕ
goal_atom script = numbered_goal (script_atoms script) (goal_term script)

-- the form at a point, each atom by its number
abbrev pub form_holds : Fraction → List Coordinate → List Atom → Form ℕ → Bool
form_holds m point atoms form =
    form_truth (λ j. atom_holds m point (slice_index_or atoms j no_atom)) (bool_holds point) form
