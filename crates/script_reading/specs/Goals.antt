-- The goal of a script with one check.
use Rattle.std.specs.Prelude.{ℕ, List, [], ◌∷◌, Option, None}
use Rattle.script_forms.specs.Atoms.{goal_atom}
use Rattle.smt_script.specs.Levels.{Asked}
use Rattle.script_reading.specs.Session.{asked_in}

-- the atom whose term is the goal in force at the only check; none with several checks, without a goal, and where the goal holds a Real `ite`
abbrev pub goal_of_checks : List Asked → Option ℕ
goal_of_checks (a ∷ []) = goal_atom a.script
goal_of_checks asked = None

-- of the text of a script without fault, where the words give this bound
abbrev pub goal_in : Option ℕ → List ℕ → Option ℕ
goal_in bound text = goal_of_checks (asked_in bound text)
