-- What a goal is among the assertions, and what the problem's form tells of it.
use Rattle.std.specs.Prelude.{ℕ, suc, List, [], ◌∷◌, codes, Option, Some, None, option_map}
use Rattle.script_model.specs.Sexp.{Place}
use Rattle.script_model.specs.Reading.{Meanings, literal_value, disjunction, at_most_op, truth}
use Rattle.script_model.specs.Script.{Command, claim, minimize}
use Rattle.script_fault.specs.declared.place.Place as code
use Rattle.smt_sexp.specs.Views.{place_of}
use Rattle.poly_graph.specs.Form.{Form, atom_is, any_form, more_forms}

-- ---- what it means, part by part, where its term means v

abbrev pub the_zero : {V : Type 0} → Meanings V → Place → V
the_zero M at = M.literal at (literal_value (codes "0") [])

abbrev pub the_truth : {V : Type 0} → Meanings V → Place → V
the_truth M at = M.apply at truth []

abbrev pub at_most_zero : {V : Type 0} → Meanings V → Place → V → V
at_most_zero M at v = M.apply at at_most_op (v ∷ the_zero M at ∷ [])

abbrev pub goal_meaning : {V : Type 0} → Meanings V → Place → V → V
goal_meaning M at v = M.apply at disjunction (at_most_zero M at v ∷ the_truth M at ∷ [])

-- ---- where it stands

-- a place, where there is one
abbrev pub places_seen : Option code.Place → List Place
places_seen None = []
places_seen (Some at) = place_of at ∷ []

-- the number of assertions before the first goal
abbrev pub before_goal : List Command → Option ℕ
before_goal [] = None
before_goal (claim at e ∷ rest) = option_map suc (before_goal rest)
before_goal (minimize at t ∷ rest) = Some 0
before_goal (_ ∷ rest) = before_goal rest

-- the atom that is the first part of a disjunction
abbrev pub first_atom : Form ℕ → Option ℕ
first_atom (any_form (more_forms (atom_is j) rest)) = Some j
first_atom f = None
