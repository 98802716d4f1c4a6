-- The laws that tie a script's terms, atoms, form and problem to what the script means.
use Rattle.std.specs.Prelude.{◌≡◌, ◌<◌, ℕ, List, length, slice_index_or, Option, Some, None, IsTrue, ◌↔◌}
use Rattle.std.specs.List.{AllByRecursion, All}
use Rattle.dyadic.specs.Fraction.{Fraction, IsFraction, at_most}
use Rattle.dyadic.specs.Point.{Coordinate, IsPoint}
use Rattle.script_model.specs.Script.{Command, Satisfies, goal_value, sorts_of}
use Rattle.script_model.specs.Declared.{InDeclaredBox, bound_fault}
use Rattle.poly_graph.specs.Term.{Term, term_value, Atom, atom_holds}
use Rattle.poly_graph.specs.Form.{form_truth}
use Rattle.poly_graph.specs.Problem.{Problem, Axis, IsDeclared, full_atom, no_atom, bool_holds, IsTerm, sorts_of_problem, in_declared_box}
use Rattle.dyadic.specs.Lowest.{reduced}
use Rattle.script_forms.specs.Atoms.{unfolding_fault, script_atoms, script_form, goal_atom, form_holds}
use Rattle.script_forms.specs.ProblemOf.{IsProblemOf}
use Rattle.script_forms.specs.Walk.{building_fault}

-- Where a script unfolds without a fault, its form is true at a point, each atom being true where its term's
-- value lies in its range loosened by m, exactly where the point satisfies the script loosened by m.
abbrev pub FormMeansScript : Type 0
FormMeansScript = (script : List Command) → unfolding_fault script ≡ None → (m : Fraction) (point : List Coordinate) →
    IsPoint (sorts_of script) point →
    IsTrue (form_holds m point (script_atoms script) (script_form script)) ↔ Satisfies m point script

-- the form of a problem at a point, each atom loosened by m
abbrev pub ProblemHolds : Fraction → List Coordinate → Problem → Type 0
ProblemHolds m point p = IsTrue (form_truth (λ j. atom_holds m point (full_atom p j)) (bool_holds point) p.form)

-- The same of each problem that is that of the script.
abbrev pub ProblemMeansScript : Type 0
ProblemMeansScript = (bound : Option ℕ) (script : List Command) (p : Problem) → IsProblemOf bound script p →
    (m : Fraction) (point : List Coordinate) → IsPoint (sorts_of_problem p) point →
    ProblemHolds m point p ↔ Satisfies m point script

-- The terms of a script's atoms have fractions for constants and Real constants for variables.
abbrev pub AtomsAreGood : Type 0
AtomsAreGood = (script : List Command) → AllByRecursion (λ (a : Atom). IsTerm (sorts_of script) a.0) (script_atoms script)

-- The declared box of a script is that of its problem.
abbrev pub BoxIsDeclared : Type 0
BoxIsDeclared = (bound : Option ℕ) (script : List Command) (p : Problem) → IsProblemOf bound script p → (point : List Coordinate) →
    InDeclaredBox bound script point ↔ (IsPoint (sorts_of_problem p) point × IsTrue (in_declared_box p point))

-- Where the bounds of a script have no fault, its problem's declared ends are bounds: rounding leaves them finite
-- and moves them by little.
abbrev pub AxesAreBounds : Type 0
AxesAreBounds = (bound : Option ℕ) (script : List Command) (p : Problem) → IsProblemOf bound script p →
    All (λ (a : Axis). IsDeclared a.declared) p.axes

-- A fraction in lowest terms is a fraction of the same value.
abbrev pub LowestIsSame : Type 0
LowestIsSame = (q : Fraction) → IsFraction q → IsFraction (reduced q) × IsTrue (at_most q (reduced q)) × IsTrue (at_most (reduced q) q)

-- Where the building of a script has no fault, its unfolding and its bounds have none.
abbrev pub FaultlessUnfolds : Type 0
FaultlessUnfolds = (bound : Option ℕ) (script : List Command) → building_fault bound script ≡ None → (unfolding_fault script ≡ None) × (bound_fault bound script ≡ None)

-- The script has a goal, and the term has its value at the point.
abbrev pub IsGoalAt : List Command → List Coordinate → Term → Type 0
IsGoalAt script point t = (q : Fraction) × (goal_value point script ≡ Some q) × IsFraction q × IsFraction (term_value point t) ×
    IsTrue (at_most q (term_value point t)) × IsTrue (at_most (term_value point t) q)

-- The atom of a script's goal is one of its atoms, and its term has the goal's value at each point.
abbrev pub GoalIsAtom : Type 0
GoalIsAtom = (script : List Command) (g : ℕ) → goal_atom script ≡ Some g →
    (g < length (script_atoms script)) ×
    ((point : List Coordinate) → IsPoint (sorts_of script) point → IsGoalAt script point (slice_index_or (script_atoms script) g no_atom).0)

-- The same of each problem that is that of the script.
abbrev pub GoalOfProblem : Type 0
GoalOfProblem = (bound : Option ℕ) (script : List Command) (p : Problem) → IsProblemOf bound script p → (g : ℕ) → goal_atom script ≡ Some g →
    (g < length p.atoms) × ((point : List Coordinate) → IsPoint (sorts_of_problem p) point → IsGoalAt script point (full_atom p g).0)
