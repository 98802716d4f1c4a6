-- A goal among the steps of a script, and the goal of a session.
use Rattle.std.specs.Prelude.{◌≡◌, ℕ, List, [], ◌∷◌, Bool, true, false, cond, Option, None, Result, Ok, Err}
use Rattle.script_model.specs.Script.{minimize}
use Rattle.script_fault.specs.declared.fault.ReadError.{ReadError}
use Rattle.script_fault.specs.declared.fault.ReadError.TheVariants.{Memory}
use Rattle.smt_sexp.specs.Arena.{listed, rest_of}
use Rattle.smt_sexp.specs.declared.sexps.Sexps.{Sexps}
use Rattle.smt_script.specs.Commands.{steps, steps_of}
use Rattle.smt_script.specs.Levels.{Step, command, checks_of}
use Rattle.sort_check.specs.Levels.{course_fault}
use Rattle.poly_graph.specs.ProblemViews.{Parts}
use Rattle.problem_session.specs.Session.{problems_of}
use Rattle.script_reading.specs.Goals.{goal_of_checks}
use Rattle.script_reading.specs.Session.{AreBuilt, carried_of}

abbrev pub is_goal : Step → Bool
is_goal (command (minimize at t)) = true
is_goal s = false

-- a goal is among them
abbrev pub has_goal : List Step → Bool
has_goal [] = false
has_goal (s ∷ rest) = cond (is_goal s) true (has_goal rest)

-- the expressions are a script without fault, and these are the problems of its checks
pub record IsSessionOf (s : Sexps) (session : List (Parts × Bool)) : Type 0 where
  pub bound : Option ℕ
  pub told : List Step
  pub are : steps_of (listed (rest_of s 0)) ≡ steps told
  pub sorted : course_fault told ≡ None
  pub built : AreBuilt bound (checks_of told) (carried_of told) (problems_of session)

-- the atom of the goal in force at the only check, or memory
abbrev pub IsGoalAnswer : List Step → Result (Option ℕ) ReadError → Type 0
IsGoalAnswer told (Ok goal) = goal ≡ goal_of_checks (checks_of told)
IsGoalAnswer told (Err e) = e ≡ Memory
