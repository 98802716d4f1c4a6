-- The first fault of the names and sorts of a whole script, by what is in force at each of its steps.
use Rattle.std.specs.Prelude.{List, [], ◌∷◌, ◌++◌, Option, Some, None}
use Rattle.script_model.specs.Sexp.{Sexps}
use Rattle.script_model.specs.Reading.{Names, meanings}
use Rattle.script_model.specs.Script.{Command}
use Rattle.smt_script.specs.Levels.{Levels, Step, command, asks_values, after_step, no_levels}
use Rattle.sort_check.specs.Sorts.{Finding, Sorted, ill, first_ill, roots, sort_fault_in, sorting, then_on}
use Rattle.sort_check.specs.Steps.{named_after}

-- the names that are known behind commands, where these are known before them
abbrev pub names_of : Names Sorted → List Command → Names Sorted
names_of names [] = names
names_of names (c ∷ rest) = names_of (named_after c names) rest

-- a term that is asked for may be of any sort
abbrev pub fault_in : Option Sorted → Finding
fault_in (Some (ill at f)) = Some (at, f)
fault_in _ = None

abbrev pub terms_fault : Names Sorted → Sexps → Finding
terms_fault names es = fault_in (first_ill (meanings sorting names es))

-- where these names are known before the first command, and these commands are in force: the fault of a command is that
-- of the script which ends with it
abbrev pub step_fault : Names Sorted → List Command → Step → Finding
step_fault theory cs (command c) = sort_fault_in theory (cs ++ (c ∷ []))
step_fault theory cs (asks_values at es) = terms_fault (names_of theory cs) es
step_fault theory cs s = None

-- of steps where these levels are open
abbrev pub course_fault_from : Names Sorted → Levels → List Step → Finding
course_fault_from theory l [] = None
course_fault_from theory l (s ∷ rest) = then_on (step_fault theory l.inner s) (course_fault_from theory (after_step l s) rest)

-- the first fault of the names and sorts of a script, where these names are known before its first command, and again behind
-- each `reset`
abbrev pub course_fault_in : Names Sorted → List Step → Finding
course_fault_in theory steps = course_fault_from theory no_levels steps

abbrev pub course_fault : List Step → Finding
course_fault steps = course_fault_in [] steps

-- where `sqrt` is a function of one Real
abbrev pub course_fault_with_roots : List Step → Finding
course_fault_with_roots steps = course_fault_in roots steps
