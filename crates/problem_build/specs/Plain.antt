-- What a script without fault is, as it is written.
use Rattle.std.specs.Prelude.{◌≡◌, ℕ, List, Bool, Option, None}
use Rattle.poly_graph.specs.Problem.{Problem}
use Rattle.script_model.specs.Script.{Command}
use Rattle.smt_script.specs.Levels.{Asked, checks_of, only_script}
use Rattle.script_reading.specs.Built.{IsBuiltOf}
use Rattle.script_reading.specs.Faults.{plain_script_fault, plain_session_fault}
use Rattle.script_reading.specs.Goals.{goal_of_checks}
use Rattle.script_reading.specs.Reader.{or_none}
use Rattle.script_reading.specs.Session.{AreBuilt, carried_of, steps_of_text}

abbrev pub plain_checks : List ℕ → List Asked
plain_checks text = checks_of (steps_of_text text)

-- the commands of a script with one check
abbrev pub plain_commands : List ℕ → List Command
plain_commands text = or_none (only_script (plain_checks text))

-- the atom of the goal at its only check
abbrev pub plain_goal_in : List ℕ → Option ℕ
plain_goal_in text = goal_of_checks (plain_checks text)

-- it has no fault as it is written, and this is its problem
pub record HasPlainProblem (bound : Option ℕ) (p : Problem) (text : List ℕ) : Type 0 where
  pub clean : plain_script_fault bound text ≡ None
  pub built : IsBuiltOf bound (plain_commands text) p

-- it has no fault as it is written, and these are the problems of its checks
pub record HasPlainSession (bound : Option ℕ) (problems : List (Problem × Bool)) (text : List ℕ) : Type 0 where
  pub clean : plain_session_fault bound text ≡ None
  pub built : AreBuilt bound (plain_checks text) (carried_of (steps_of_text text)) problems
