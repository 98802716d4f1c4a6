-- Why what a builder made is the problem of the script.
use Rattle.std.specs.Prelude.{◌≡◌, ℕ, List, Bool, All, Option, Some, None}
use Rattle.script_model.specs.Sexp.{Place}
use Rattle.script_model.specs.Script.{Command, constants_of}
use Rattle.script_model.specs.Declared.{bound_fault, declared_interval}
use Rattle.poly_graph.specs.Problem.{Axis, Problem}
use Rattle.poly_graph.specs.ProblemViews.{Parts, IsWhole, problem_of}
use Rattle.script_forms.specs.Terms.{ill_formed}
use Rattle.script_forms.specs.Atoms.{atoms_in_place}
use Rattle.script_forms.specs.ProblemOf.{AreAxes, IsProblemOf}
use Rattle.script_forms.specs.Walk.{stands, nothing_made, claim_places, works, after_assertions, after_root, unfolds_not, building_fault}
use Rattle.script_reading.specs.Built.{AreLowest, IsInWalkOrder}
use Rattle.script_reading.specs.Reader.{IsBuilt}
use Rattle.script_reading.specs.Session.{HasSession}
use Rattle.problem_build.specs.BuildAnswers.{IsLean}
use Rattle.sort_check.specs.Sorts.{sort_fault}
use Rattle.term_build.specs.Built.{BuilderModel, stand_of, IsMade}
use Rattle.term_build.specs.Sketch.{IsFormOf}

-- A well-sorted script meets no expression without a sort.
abbrev pub SortedIsSound : Type 0
SortedIsSound = (bound : Option ℕ) (script : List Command) → sort_fault script ≡ None → (at place : Place) → building_fault bound script ≡ Some (at, unfolds_not (ill_formed place)) → ⊥

-- the parts of a problem that a builder made, with these axes, the form's root being this node
abbrev pub parts_made : BuilderModel → List Axis → ℕ → Parts
parts_made m axes root = record { axes = axes; nodes = m.nodes; atoms = m.atoms; forms = m.forms; root = root }

-- the script has no fault, and its problem is all that is made, with these axes and this root
pub record IsProblemMade (bound : Option ℕ) (script : List Command) (m : BuilderModel) (axes : List Axis) (root : ℕ) : Type 0 where
  pub clean : building_fault bound script ≡ None
  pub problem : IsProblemOf bound script (problem_of (parts_made m axes root))
  pub whole : IsWhole (parts_made m axes root)
  pub lean : IsLean (parts_made m axes root)
  pub order : IsInWalkOrder script m.nodes
  pub ends : All (λ (a : Axis). AreLowest a.declared) axes

-- Where a builder walked over all assertions of a script, and then made its form as this node, its parts are the
-- script's problem, if the axes are those that the script declares and no bound has a fault.
abbrev pub PartsAreProblem : Type 0
PartsAreProblem = (bound : Option ℕ) (script : List Command) (m m1 : BuilderModel) (axes : List Axis) (root : ℕ) → IsMade m1 →
    after_assertions nothing_made (claim_places script) (works script) ≡ stands (stand_of m) → after_root script (stand_of m) ≡ stands (stand_of m1) → IsFormOf m1 (atoms_in_place script) root →
    bound_fault bound script ≡ None → AreAxes (declared_interval bound script) 0 (constants_of script) axes → IsProblemOf bound script (problem_of (parts_made m1 axes root)) × (building_fault bound script ≡ None)

-- A script has one problem.
abbrev pub BuiltIsOne : Type 0
BuiltIsOne = (bound : Option ℕ) (text : List ℕ) (p q : Problem) → IsBuilt bound text p → IsBuilt bound text q → p ≡ q

-- Each of its checks has one problem, and of each one thing is said.
abbrev pub SessionIsOne : Type 0
SessionIsOne = (bound : Option ℕ) (text : List ℕ) (ps qs : List (Problem × Bool)) → HasSession bound ps text → HasSession bound qs text → ps ≡ qs
