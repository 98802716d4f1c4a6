-- The commands of a script's expressions, and their first fault.
use Rattle.std.specs.Prelude.{ℕ, suc, List, [], ◌∷◌, ◌++◌, ◌+◌, ◌-◌, Bool, true, false, cond, Option, Some, None, nat_le, codes}
use Rattle.std.specs.Str.Parse.{digits_value}
use Rattle.dyadic.specs.Point.{Sort, real_sort, bool_sort}
use Rattle.script_model.specs.Sexp.{Place, place_of, symbol, numeral, string, Sexp, leaf, group, Sexps, none, more}
use Rattle.script_model.specs.Reading.{found}
use Rattle.script_model.specs.Script.{Command, declare, define, claim, minimize, check, ineffective, Parameter}
use Rattle.smt_sexp.specs.Lexicon.{TextRead, whole, faulty, read}
use Rattle.smt_script.specs.Forms.{is_end}
use Rattle.smt_script.specs.Levels.{Step, command, opens, closes, resets, asks_values, checks_of, only_script}

pub data CommandFault : Type 0 where
  -- no command, or one in a wrong form
  bad_command : CommandFault
  -- a logic that is not read
  wrong_logic : CommandFault
  -- a command or a sort that is left out of the language
  left_out : CommandFault
  -- no check before the end
  no_check : CommandFault
  -- more open levels, or more checks, than there may be
  too_many_levels too_many_checks : CommandFault

-- ---- words

pub data Word : Type 0 where
  sets_logic informs echoes gets_model gets_values declares declares_function defines asserts minimizes checks exits : Word
  pushes pops assumes drops restarts : Word
  -- known, and left out of the language in every form
  stays_out : Word

abbrev pub command_words : List (List ℕ × Word)
command_words = (codes "set-logic", sets_logic) ∷ (codes "set-info", informs) ∷ (codes "set-option", informs) ∷ (codes "get-model", gets_model) ∷
    (codes "get-info", informs) ∷ (codes "echo", echoes) ∷ (codes "get-value", gets_values) ∷
    (codes "push", pushes) ∷ (codes "pop", pops) ∷ (codes "check-sat-assuming", assumes) ∷
    (codes "reset-assertions", drops) ∷ (codes "reset", restarts) ∷
    (codes "declare-const", declares) ∷ (codes "declare-fun", declares_function) ∷ (codes "define-fun", defines) ∷
    (codes "assert", asserts) ∷ (codes "minimize", minimizes) ∷ (codes "check-sat", checks) ∷ (codes "exit", exits) ∷
    (codes "get-unsat-core", stays_out) ∷ (codes "get-proof", stays_out) ∷ (codes "define-const", stays_out) ∷ (codes "define-sort", stays_out) ∷
    (codes "define-fun-rec", stays_out) ∷ (codes "define-funs-rec", stays_out) ∷ (codes "declare-datatype", stays_out) ∷ (codes "declare-datatypes", stays_out) ∷ []

abbrev pub logics : List (List ℕ × Bool)
logics = (codes "QF_NRA", true) ∷ (codes "QF_LRA", true) ∷ []

-- ---- sorts and parameters

-- what stands in the place of a sort
pub data SortForm : Type 0 where
  no_sort other_sort : SortForm
  one_sort : Sort → SortForm

abbrev pub sort_words : List (List ℕ × Sort)
sort_words = (codes "Real", real_sort) ∷ (codes "Bool", bool_sort) ∷ []

abbrev pub known_sort : Option Sort → SortForm
known_sort (Some s) = one_sort s
known_sort None = other_sort

-- a symbol, or a list that is not empty, has the form of a sort
abbrev pub sort_form : Sexp → SortForm
sort_form (leaf _ (symbol s)) = known_sort (found s sort_words)
sort_form (group _ (more e es)) = other_sort
sort_form _ = no_sort

-- the sorts of arguments: no arguments, some, or not all in the form of a sort
pub data Arguments : Type 0 where
  no_arguments some_arguments wrong_arguments : Arguments

abbrev pub with_argument : SortForm → Arguments → Arguments
with_argument no_sort rest = wrong_arguments
with_argument s wrong_arguments = wrong_arguments
with_argument s rest = some_arguments

abbrev pub arguments : Sexps → Arguments
arguments none = no_arguments
arguments (more e rest) = with_argument (sort_form e) (arguments rest)

-- parameters: of known sorts, some of another sort, or not all in their form
pub data Parameters : Type 0 where
  known_parameters : List Parameter → Parameters
  other_parameters wrong_parameters : Parameters

abbrev pub with_parameter : Place → List ℕ → SortForm → Parameters → Parameters
with_parameter at x no_sort rest = wrong_parameters
with_parameter at x s wrong_parameters = wrong_parameters
with_parameter at x (one_sort s) (known_parameters params) = known_parameters (record { at = at; name = x; sort = s } ∷ params)
with_parameter at x s rest = other_parameters

abbrev pub parameters : Sexps → Parameters
parameters none = known_parameters []
parameters (more (group _ (more (leaf at (symbol x)) (more s none))) rest) = with_parameter at x (sort_form s) (parameters rest)
parameters _ = wrong_parameters

-- ---- one command

-- what came before a command: a logic, a goal, how many checks, how many levels are open, the end of the script
pub record Before : Type 0 where
  pub logic : Bool
  pub goal : Bool
  pub checks : ℕ
  pub levels : ℕ
  pub ended : Bool

-- the steps of a command, with what comes before the next one, or a fault
pub data Said : Type 0 where
  says : Before → List Step → Said
  fails : CommandFault → Said

abbrev pub one_step : Step → List Step
one_step s = s ∷ []

abbrev pub with_set : Before → Before
with_set b = record b { logic = true }

abbrev pub with_goal : Before → Before
with_goal b = record b { goal = true }

abbrev pub with_end : Before → Before
with_end b = record b { ended = true }

abbrev pub with_check : Before → Before
with_check b = record b { checks = suc b.checks }

abbrev pub with_levels : Before → ℕ → Before
with_levels b n = record b { levels = n }

abbrev pub with_nothing : Before → Before
with_nothing b = record b { logic = false; levels = 0 }

abbrev pub with_logic : Before → Place → Bool → Said
with_logic b at false = fails wrong_logic
with_logic b at true = says (with_set b) (one_step (command (ineffective at)))

abbrev pub is_logic : Option Bool → Bool
is_logic (Some b) = b
is_logic None = false

-- a second goal is left out of the language
abbrev pub goal : Before → Place → Sexp → Said
goal b at t = cond b.goal (fails left_out) (says (with_goal b) (one_step (command (minimize at t))))

-- a form that is wrong comes before a sort that is left out
abbrev pub declaration : Before → Place → List ℕ → Arguments → SortForm → Said
declaration b at f wrong_arguments s = fails bad_command
declaration b at f args no_sort = fails bad_command
declaration b at f no_arguments (one_sort s) = says b (one_step (command (declare at f s)))
declaration b at f args s = fails left_out

abbrev pub definition : Before → Place → List ℕ → Parameters → SortForm → Sexp → Said
definition b at f wrong_parameters s body = fails bad_command
definition b at f params no_sort body = fails bad_command
definition b at f (known_parameters params) (one_sort s) body = says b (one_step (command (define at f params s body)))
definition b at f params s body = fails left_out

-- ---- levels and checks, of each of which there may be 1,024

abbrev pub most_levels : ℕ
most_levels = 1024

abbrev pub most_checks : ℕ
most_checks = 1024

abbrev pub has_room : Before → Bool
has_room b = nat_le (suc b.checks) most_checks

abbrev pub pushing : Before → Place → ℕ → Said
pushing b at n = cond (nat_le (b.levels + n) most_levels) (says (with_levels b (b.levels + n)) (one_step (opens at n))) (fails too_many_levels)

abbrev pub popping : Before → Place → ℕ → Said
popping b at n = cond (nat_le n b.levels) (says (with_levels b (b.levels - n)) (one_step (closes at n))) (fails bad_command)

abbrev pub checking : Before → Place → Said
checking b at = cond (has_room b) (says (with_check b) (one_step (command (check at)))) (fails too_many_checks)

abbrev pub assumptions : Place → Sexps → List Step
assumptions at none = []
assumptions at (more e rest) = command (claim at e) ∷ assumptions at rest

-- a level with an assertion of each term and a check, which is closed again
abbrev pub assumed : Place → Sexps → List Step
assumed at es = (opens at 1 ∷ []) ++ assumptions at es ++ (command (check at) ∷ closes at 1 ∷ [])

-- without terms a plain check
abbrev pub assuming : Before → Place → Sexps → Said
assuming b at es = cond (is_end es) (checking b at)
    (cond (nat_le (suc b.levels) most_levels)
    (cond (has_room b) (says (with_check b) (assumed at es)) (fails too_many_checks))
    (fails too_many_levels))

-- the command of this word
abbrev pub by_word : Before → Place → Word → Sexps → Said
by_word b at sets_logic (more (leaf _ (symbol l)) none) = cond b.logic (fails bad_command) (with_logic b at (is_logic (found l logics)))
by_word b at informs args = says b (one_step (command (ineffective at)))
by_word b at echoes (more (leaf _ (string t)) none) = says b (one_step (command (ineffective at)))
by_word b at gets_model none = says b (one_step (command (ineffective at)))
by_word b at gets_values (more (group _ (more e es)) none) = says b (one_step (asks_values at (more e es)))
by_word b at declares (more (leaf _ (symbol f)) (more s none)) = declaration b at f no_arguments (sort_form s)
by_word b at declares_function (more (leaf _ (symbol f)) (more (group _ args) (more s none))) = declaration b at f (arguments args) (sort_form s)
by_word b at defines (more (leaf _ (symbol f)) (more (group _ params) (more s (more body none)))) = definition b at f (parameters params) (sort_form s) body
by_word b at asserts (more e none) = says b (one_step (command (claim at e)))
by_word b at minimizes (more t none) = goal b at t
by_word b at checks none = checking b at
by_word b at exits none = says (with_end b) (one_step (command (ineffective at)))
by_word b at pushes (more (leaf _ (numeral digits)) none) = pushing b at (digits_value 10 digits)
by_word b at pops (more (leaf _ (numeral digits)) none) = popping b at (digits_value 10 digits)
by_word b at assumes (more (group _ es) none) = assuming b at es
by_word b at drops none = says (with_levels b 0) (one_step (resets at))
by_word b at restarts none = says (with_nothing b) (one_step (resets at))
by_word b at stays_out args = fails left_out
by_word b at word args = fails bad_command

abbrev pub by_head : Before → Place → Option Word → Sexps → Said
by_head b at None args = fails bad_command
by_head b at (Some word) args = by_word b at word args

abbrev pub one_command : Before → Sexp → Said
one_command b (group at (more (leaf _ (symbol w)) args)) = by_head b at (found w command_words) args
one_command b e = fails bad_command

-- ---- all commands

pub data CommandsRead : Type 0 where
  steps : List Step → CommandsRead
  command_fault : Place → CommandFault → CommandsRead

-- the place of what no command shows
abbrev pub nowhere : Place
nowhere = record { line = 0; column = 0 }

abbrev pub at_end : Before → CommandsRead
at_end b = cond (nat_le b.checks 0) (command_fault nowhere no_check) (steps [])

abbrev pub joined : Place → Said → CommandsRead → CommandsRead
joined at (fails f) later = command_fault at f
joined at (says b ss) (steps rest) = steps (ss ++ rest)
joined at (says b ss) (command_fault at' f) = command_fault at' f

abbrev pub next_before : Before → Said → Before
next_before b (says b' ss) = b'
next_before b (fails f) = b

-- the steps of the commands of expressions, or the first fault
abbrev pub steps_from : Before → List Sexp → CommandsRead
steps_from b [] = at_end b
steps_from b (e ∷ rest) = cond b.ended (at_end b) (joined (place_of e) (one_command b e) (steps_from (next_before b (one_command b e)) rest))

abbrev pub at_start : Before
at_start = record { logic = false; goal = false; checks = 0; levels = 0; ended = false }

abbrev pub steps_of : List Sexp → CommandsRead
steps_of es = steps_from at_start es

-- ---- of a text

abbrev pub accepted : CommandsRead → Option (List Step)
accepted (steps ss) = Some ss
accepted (command_fault at f) = None

abbrev pub of_read : TextRead → Option (List Step)
of_read (whole es) = accepted (steps_of es)
of_read (faulty at f) = None

-- the steps of a text that has no fault of its text and its commands
abbrev pub course_of : List ℕ → Option (List Step)
course_of bytes = of_read (read bytes)

abbrev pub with_one_check : Option (List Step) → Option (List Command)
with_one_check None = None
with_one_check (Some ss) = only_script (checks_of ss)

-- the script of a text that has one check and no fault of its text and its commands: what is in force at the check
abbrev pub script_of : List ℕ → Option (List Command)
script_of bytes = with_one_check (course_of bytes)
