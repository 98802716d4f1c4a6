-- What the calls answer, in values of the code.
use Rattle.std.specs.Prelude.{◌≡◌, ◌++◌, ℕ, Bool, List, Result, Ok, Err, map}
use Rattle.script_model.specs.Sexp as sexp
use Rattle.script_fault.specs.Answers.{IsFaultOrMemory}
use Rattle.script_fault.specs.declared.fault.ReadError.{ReadError}
use Rattle.script_fault.specs.declared.place.Place.{Place}
use Rattle.smt_sexp.specs.Arena.{rest_of}
use Rattle.smt_sexp.specs.Views.{place_of}
use Rattle.smt_sexp.specs.declared.sexps.Sexps.{Sexps}
use Rattle.smt_script.specs.Commands as defined
use Rattle.smt_script.specs.Commands.{Said, assumed, by_word, command_words, one_command, one_step, says, with_set}
use Rattle.smt_script.specs.Levels as levels
use Rattle.smt_script.specs.Forms.{as_any, as_group, as_numeral, as_string, as_symbol}
use Rattle.smt_script.specs.Run.{GivesNext, before_of}
use Rattle.smt_script.specs.Shapes.{asserts_term, assumes_terms, at_last, declares_function_name, declares_name, defines_name, echoes_text, gets_terms, minimizes_term, pops_levels, pushes_levels, sets_name}
use Rattle.smt_script.specs.CommandAnswers.{IsCommandAnswer, said_fault}
use Rattle.smt_script.specs.Views.{command_of, step_of, word_of}
use Rattle.smt_script.specs.declared.command.Command.{Command}
use Rattle.smt_script.specs.declared.command.Step.{Step}
use Rattle.smt_script.specs.declared.found.Before.{Before}
use Rattle.smt_script.specs.declared.found.Found.{Found}
use Rattle.smt_script.specs.declared.found.Found.TheVariants.{One, Assumed}
use Rattle.smt_script.specs.declared.words.Word.{Word}

-- a group of these places, after what came before it: its steps behind these
abbrev pub GivesGroup : Sexps → Before → Place → ℕ → List Step → List Step → Result Before ReadError → Type 0
GivesGroup s before place inside old new r = GivesNext s (place_of place) old new r (one_command (before_of before) (sexp.group (place_of place) (rest_of s inside)))

-- what is found, as steps
abbrev pub steps_found : Sexps → Place → Found → List levels.Step
steps_found s at (One step) = one_step (step_of s step)
steps_found s at (Assumed first) = assumed (place_of at) (rest_of s first)

-- what is said is found, with what comes before the next command, or its fault
abbrev pub GivesFound : Sexps → Place → Said → Result (Before × Found) ReadError → Type 0
GivesFound s place said (Ok (b, f)) = said ≡ says (before_of b) (steps_found s place f)
GivesFound s place said (Err e) = IsFaultOrMemory e (said_fault (place_of place) said)

-- the steps that are found stand behind these
abbrev pub Appends : Sexps → Place → Found → List Step → List Step → Type 0
Appends s place f old new = map (step_of s) new ≡ map (step_of s) old ++ steps_found s place f

-- the command of this word at its arguments
abbrev pub GivesByWord : Sexps → Before → Word → Place → ℕ → Result (Before × Found) ReadError → Type 0
GivesByWord s before word place at r = GivesFound s place (by_word (before_of before) (place_of place) (word_of word) (rest_of s at)) r

-- one command is found where it is said
abbrev pub GivesOne : Before → Result Command ReadError → Result (Before × Found) ReadError → Type 0
GivesOne after read r = (s : Sexps) (place : Place) (said : Said) → IsCommandAnswer s (before_of after) (place_of place) read said → GivesFound s place said r

abbrev pub GivesLogic : Sexps → Bool → Place → ℕ → Result Command ReadError → Type 0
GivesLogic s is_set place at r = (b : defined.Before) → b.logic ≡ is_set →
    IsCommandAnswer s (with_set b) (place_of place) r (sets_name b (place_of place) (as_symbol (rest_of s at)))

-- what is said, whatever comes before the command
abbrev pub GivesAfterAny : Sexps → Place → (defined.Before → Said) → Result Command ReadError → Type 0
GivesAfterAny s place said r = (b : defined.Before) → IsCommandAnswer s b (place_of place) r (said b)

-- this command, where nothing is left
abbrev pub said_alone : Sexps → ℕ → Command → defined.Before → Said
said_alone s at command b = at_last (rest_of s at) (says b (one_step (levels.command (command_of s command))))

abbrev pub echo_said : Sexps → Place → ℕ → defined.Before → Said
echo_said s place at b = echoes_text b (place_of place) (as_string (rest_of s at))

abbrev pub constant_said : Sexps → Place → ℕ → defined.Before → Said
constant_said s place at b = declares_name b (place_of place) (as_symbol (rest_of s at))

abbrev pub function_said : Sexps → Place → ℕ → defined.Before → Said
function_said s place at b = declares_function_name b (place_of place) (as_symbol (rest_of s at))

abbrev pub definition_said : Sexps → Place → ℕ → defined.Before → Said
definition_said s place at b = defines_name b (place_of place) (as_symbol (rest_of s at))

abbrev pub assertion_said : Sexps → Place → ℕ → defined.Before → Said
assertion_said s place body b = asserts_term b (place_of place) (as_any (rest_of s body))

abbrev pub goal_said : Sexps → Before → Place → ℕ → Said
goal_said s before place body = minimizes_term (before_of before) (place_of place) (as_any (rest_of s body))

-- ---- of levels and checks

abbrev pub values_said : Sexps → Before → Place → ℕ → Said
values_said s before place at = gets_terms (before_of before) (place_of place) (as_group (rest_of s at))

abbrev pub push_said : Sexps → Before → Place → ℕ → Said
push_said s before place at = pushes_levels (before_of before) (place_of place) (as_numeral (rest_of s at))

abbrev pub pop_said : Sexps → Before → Place → ℕ → Said
pop_said s before place at = pops_levels (before_of before) (place_of place) (as_numeral (rest_of s at))

abbrev pub check_said : Sexps → Before → Place → ℕ → Said
check_said s before place at = at_last (rest_of s at) (defined.checking (before_of before) (place_of place))

abbrev pub assumptions_said : Sexps → Before → Place → ℕ → Said
assumptions_said s before place at = assumes_terms (before_of before) (place_of place) (as_group (rest_of s at))

-- nothing is in force after it
abbrev pub reset_said : Sexps → Before → Place → ℕ → Said
reset_said s after place at = at_last (rest_of s at) (says (before_of after) (one_step (levels.resets (place_of place))))
