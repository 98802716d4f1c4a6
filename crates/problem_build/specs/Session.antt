-- The problems of a script with any number of checks.
use Rattle.std.specs.Prelude.{◌≡◌, ℕ, List, [], ◌∷◌, ◌++◌, Bool, false, ◌&&◌, None, Option, Result, Ok, Err}
use Rattle.std.specs.List.{AllByRecursion}
use Rattle.poly_graph.specs.ProblemViews.{Parts}
use Rattle.script_model.specs.Script.{Command, check}
use Rattle.script_fault.specs.Answers.{IsFaultOrMemory}
use Rattle.script_fault.specs.declared.fault.ReadError.{ReadError}
use Rattle.script_fault.specs.declared.place.Place.{Place}
use Rattle.script_reading.specs.Faults.{in_each_check}
use Rattle.script_reading.specs.Session.{AreBuilt, carried_from, carried_of, stay_in_force}
use Rattle.smt_sexp.specs.Views.{place_of}
use Rattle.smt_script.specs.Levels.{Asked, Levels, Step, asked_from, checks_of}
use Rattle.smt_script.specs.Views.{commands_in}
use Rattle.sort_check.specs.Single.{IsNothing, Stacks}
use Rattle.sort_check.specs.Sorts.{sort_fault}
use Rattle.sort_check.specs.declared.force.Force.{Force}
use Rattle.problem_build.specs.Progress.{IsBuiltBy, IsKept}
use Rattle.problem_session.specs.Changes.{AreChanges, no_parts, problems_from}
use Rattle.problem_session.specs.Session.{problems_of}
use Rattle.problem_build.specs.Changes.{Starts, last_parts}
use Rattle.problem_build.specs.declared.session.Going.{Going}

-- the problems of the checks of these steps, or the first fault of the building of one
abbrev pub IsSessionAnswer : Option ℕ → List Step → Result (List (Parts × Bool)) ReadError → Type 0
IsSessionAnswer bound steps (Ok session) = (in_each_check bound (checks_of steps) ≡ None) × AreBuilt bound (checks_of steps) (carried_of steps) (problems_of session)
IsSessionAnswer bound steps (Err e) = IsFaultOrMemory e (in_each_check bound (checks_of steps))

-- ---- step by step

-- what is asked by a check here
abbrev pub script_at : Force → Place → List Command
script_at force at = commands_in force.script ++ (check (place_of at) ∷ [])

pub record Stays (old new : Force) : Type 0 where
  pub commands : new.script.commands.items ≡ old.script.commands.items
  pub sexps : new.script.sexps.now ≡ old.script.sexps.now
  pub marks : new.marks.items ≡ old.marks.items

abbrev pub WellSorted : Asked → Type 0
WellSorted a = sort_fault a.script ≡ None

-- of these steps those are left, and all others are done
pub record Goes (bound : Option ℕ) (steps : List Step) (g : Going) (left : List Step) : Type 0 where
  pub open_levels : Levels
  pub stacks : Stacks g.force.script.sexps.now g.force.script.commands.items g.force.marks.items open_levels
  pub done : List Asked
  pub said : List Bool
  pub built : AreBuilt bound done said (problems_of (problems_from no_parts g.checks.items))
  pub asked : checks_of steps ≡ done ++ asked_from open_levels left
  pub carried : carried_of steps ≡ said ++ carried_from (g.extends && stay_in_force g.before open_levels left) open_levels left
  pub clean : in_each_check bound (checks_of steps) ≡ in_each_check bound (asked_from open_levels left)
  pub sorted : AllByRecursion WellSorted (asked_from open_levels left)
  pub kept : IsKept g.kept open_levels.inner g.progress
  pub changes : AreChanges no_parts g.checks.items
  pub last : Starts (last_parts no_parts g.checks.items) g.progress.maker.made

-- this step is the next one
pub record IsTaken (bound : Option ℕ) (g : Going) (s : Step) : Type 0 where
  pub steps : List Step
  pub left : List Step
  pub goes : Goes bound steps g (s ∷ left)

-- these steps are left behind a step, or this is the first fault, or memory
abbrev pub GoesOn : Option ℕ → List Step → List Step → Going → Going → Result (Unit {0}) ReadError → Type 0
GoesOn bound steps left old new (Ok u) = Goes bound steps new left × (new.force.script.sexps.now ≡ old.force.script.sexps.now)
GoesOn bound steps left old new (Err e) = IsFaultOrMemory e (in_each_check bound (checks_of steps))

-- no step is taken
pub record Begins (g : Going) : Type 0 where
  pub nothing : IsNothing g.force
  pub checks : g.checks.items ≡ []
  pub extends : g.extends ≡ false
  pub progress : IsBuiltBy [] g.progress
  pub starts : Starts no_parts g.progress.maker.made
  pub kept : g.kept ≡ 0
