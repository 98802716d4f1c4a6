-- What is read of a script with any number of checks.
use Rattle.std.specs.Prelude.{◌≡◌, ℕ, List, [], ◌∷◌, ◌++◌, map, Bool, true, false, ◌&&◌, cond, nat_le, length, is_some, Option, Some, None}
use Rattle.poly_graph.specs.Problem.{Problem}
use Rattle.script_model.specs.Script.{Command, check}
use Rattle.smt_script.specs.Commands.{course_of}
use Rattle.smt_script.specs.Levels.{Asked, Levels, Step, after_step, checks_of, no_levels}
use Rattle.sort_check.specs.Single.{check_place}
use Rattle.script_fault.specs.declared.fault.ScriptFault.{ScriptFault}
use Rattle.script_roots.specs.Rewritten.{rewritten}
use Rattle.script_reading.specs.Faults.{plain_session_fault, session_fault}
use Rattle.script_reading.specs.Built.{IsBuiltOf}

abbrev pub is_check : Step → Bool
is_check s = is_some (check_place s)

-- ---- what is still in force

-- The first commands that are in force, so many, are so behind each of these steps up to the next check. What a step adds
-- stands behind them, and what is taken away is not in force again.
abbrev pub stay_in_force : ℕ → Levels → List Step → Bool
stay_in_force n l [] = true
stay_in_force n l (s ∷ rest) = cond (is_check s) true (nat_le n (length (after_step l s).inner) && stay_in_force n (after_step l s) rest)

-- of each check among steps: whether all commands of the check before are in force at it; of the first one b says so
abbrev pub carried_from : Bool → Levels → List Step → List Bool
carried_from b l [] = []
carried_from b l (s ∷ rest) = cond (is_check s) (b ∷ carried_from (stay_in_force (length l.inner) l rest) l rest) (carried_from b (after_step l s) rest)

-- of each check of a script; none stands before the first one
abbrev pub carried_of : List Step → List Bool
carried_of steps = carried_from false no_levels steps

-- ---- the checks of a script

abbrev pub or_no_steps : Option (List Step) → List Step
or_no_steps (Some steps) = steps
or_no_steps None = []

-- the steps of a script without fault
abbrev pub steps_of_text : List ℕ → List Step
steps_of_text text = or_no_steps (course_of text)

-- a check where constants stand for roots and quotients; a script with neither stays as it is
abbrev pub rewritten_at : Option ℕ → Asked → Asked
rewritten_at bound a = record { at = a.at; script = rewritten bound a.script }

abbrev pub not_carried : Asked → Bool
not_carried a = false

-- the checks by the fault of the script as it is written: without one, each with the commands that are in force at it; else with these
-- where constants stand for roots and quotients
abbrev pub asked_by : Option ℕ → List Step → Option ScriptFault → List Asked
asked_by bound steps None = checks_of steps
asked_by bound steps (Some x) = map (rewritten_at bound) (checks_of steps)

-- of each whether all commands of the check before are in force at it; it is not said of a script that is read with roots
abbrev pub carried_by : List Step → Option ScriptFault → List Bool
carried_by steps None = carried_of steps
carried_by steps (Some x) = map not_carried (checks_of steps)

-- the checks of a script without fault, where the words give this bound
abbrev pub asked_in : Option ℕ → List ℕ → List Asked
asked_in bound text = asked_by bound (steps_of_text text) (plain_session_fault bound text)

abbrev pub carried_in : Option ℕ → List ℕ → List Bool
carried_in bound text = carried_by (steps_of_text text) (plain_session_fault bound text)

-- ---- sessions

-- these are the problems of these checks, where the words give this bound, each with what is said of its check
abbrev pub AreBuilt : Option ℕ → List Asked → List Bool → List (Problem × Bool) → Type 0
AreBuilt bound [] [] [] = Unit {0}
AreBuilt bound (a ∷ asked) (b ∷ carried) (p ∷ problems) = IsBuiltOf bound a.script p.0 × (p.1 ≡ b) × AreBuilt bound asked carried problems
AreBuilt bound _ _ _ = ⊥

-- the script has no fault, and these are the problems of its checks, each with whether all commands of the check before are
-- in force at it
pub record HasSession (bound : Option ℕ) (problems : List (Problem × Bool)) (text : List ℕ) : Type 0 where
  pub clean : session_fault bound text ≡ None
  pub built : AreBuilt bound (asked_in bound text) (carried_in bound text) problems

-- ---- what a session says of two checks, one after the other

-- the commands that are in force at a check begin those at the next one
pub record BeginsNext (a next : Asked) : Type 0 where
  pub commands : List Command
  pub later : List Command
  pub here : a.script ≡ commands ++ (check a.at ∷ [])
  pub behind : next.script ≡ (commands ++ later) ++ (check next.at ∷ [])

abbrev pub IfSaid : Bool → Type 0 → Type 0
IfSaid true X = X
IfSaid false X = Unit {0}

-- where it is said of a check, the commands of the one before begin its own
abbrev pub AreCarried : List Asked → List Bool → Type 0
AreCarried (a ∷ next ∷ asked) (x ∷ y ∷ said) = IfSaid y (BeginsNext a next) × AreCarried (next ∷ asked) (y ∷ said)
AreCarried _ _ = Unit {0}
