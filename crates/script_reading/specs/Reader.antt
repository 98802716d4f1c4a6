-- What is read of a script's bytes.
use Rattle.std.specs.Prelude.{◌≡◌, ℕ, List, [], Option, Some, None}
use Rattle.poly_graph.specs.Problem.{Problem}
use Rattle.script_model.specs.Script.{Command}
pub use Rattle.smt_sexp.specs.TextAnswers.{too_many_bytes}
use Rattle.smt_script.specs.Levels.{only_script}
use Rattle.script_reading.specs.Built.{IsBuiltOf}
use Rattle.script_reading.specs.Faults.{script_fault}
use Rattle.script_reading.specs.Session.{asked_in}

abbrev pub or_none : Option (List Command) → List Command
or_none (Some script) = script
or_none None = []

-- the commands of a script without fault, which has one check, where the words give this bound: constants stand for its roots and quotients
abbrev pub commands_of : Option ℕ → List ℕ → List Command
commands_of bound text = or_none (only_script (asked_in bound text))

-- p is the problem of a script without fault
abbrev pub IsBuilt : Option ℕ → List ℕ → Problem → Type 0
IsBuilt bound text p = IsBuiltOf bound (commands_of bound text) p

-- the script has no fault, and this is its problem
pub record HasProblem (bound : Option ℕ) (p : Problem) (script : List ℕ) : Type 0 where
  pub clean : script_fault bound script ≡ None
  pub built : IsBuilt bound script p
