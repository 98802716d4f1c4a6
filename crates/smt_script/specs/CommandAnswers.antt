-- What a reader of commands answers.
use Rattle.std.specs.Prelude.{◌≡◌, ℕ, Option, Some, None, Result, Ok, Err, map}
use Rattle.script_model.specs.Sexp.{Place}
use Rattle.smt_sexp.specs.Arena.{rest_of, expression_at}
use Rattle.smt_sexp.specs.Views.{place_of}
use Rattle.smt_sexp.specs.declared.sexps.Sexps as arena
use Rattle.script_fault.specs.declared.place.Place as code
use Rattle.smt_script.specs.Commands as defined
use Rattle.smt_script.specs.Commands.{Said, says, fails, CommandFault, bad_command, wrong_logic, left_out, no_check, too_many_levels, too_many_checks, one_step, sort_form, CommandsRead, steps, command_fault}
use Rattle.smt_script.specs.Forms.{as_any, as_group, Behind}
use Rattle.smt_script.specs.Shapes.{shape_group}
use Rattle.script_fault.specs.declared.name.Name as names
use Rattle.std.specs.Borrow.{Bor}
use Rattle.smt_script.specs.Levels as levels
use Rattle.smt_script.specs.Views.{form_of, command_of, steps_in, parameter_of}
use Rattle.smt_script.specs.declared.words.SortForm.{SortForm}
use Rattle.smt_script.specs.declared.command.Command.{Command}
use Rattle.smt_script.specs.declared.command.Course.{Course}
use Rattle.script_fault.specs.Answers.{IsFaultOrMemory}
use Rattle.script_fault.specs.declared.fault.FaultKind.{FaultKind}
use Rattle.script_fault.specs.declared.fault.FaultKind.TheVariants.{BadCommand, WrongLogic, LeftOut, NoCheck, TooMany}
use Rattle.script_fault.specs.declared.limit.Limit.TheVariants.{Levels, Checks}
use Rattle.script_fault.specs.declared.fault.ReadError.{ReadError}
use Rattle.script_fault.specs.declared.fault.ScriptFault.{ScriptFault}
use Rattle.smt_sexp.specs.TextAnswers.{fault_at}
use Rattle.smt_script.specs.declared.lists.Arguments.{Arguments}
use Rattle.smt_script.specs.declared.lists.Arguments.TheVariants as args
use Rattle.smt_script.specs.declared.lists.Parameters.{Parameters}
use Rattle.smt_script.specs.declared.lists.Parameters.TheVariants as params

-- what stands in the place of a sort, and the place behind it
abbrev pub FindsForm : arena.Sexps → ℕ → Option (SortForm × ℕ) → Type 0
FindsForm s at None = as_any (rest_of s at) ≡ None
FindsForm s at (Some (form, after)) = (as_any (rest_of s at) ≡ Some (expression_at s at, rest_of s after)) × (form_of form ≡ sort_form (expression_at s at)) × Behind s at after

-- a parameter: its name with its place, and what stands in the place of its sort
abbrev pub FindsShape : arena.Sexps → ℕ → Option (code.Place × Bor names.Name × SortForm) → Type 0
FindsShape s at None = shape_group (as_group (rest_of s at)) ≡ None
FindsShape s at (Some (place, name, form)) = shape_group (as_group (rest_of s at)) ≡ Some (place_of place, name.now, form_of form)

abbrev pub arguments_of : Arguments → defined.Arguments
arguments_of args.Nothing = defined.no_arguments
arguments_of args.Some = defined.some_arguments
arguments_of args.Wrong = defined.wrong_arguments

abbrev pub parameters_of : Parameters → defined.Parameters
parameters_of (params.Known ps) = defined.known_parameters (map parameter_of ps.items)
parameters_of params.Other = defined.other_parameters
parameters_of params.Wrong = defined.wrong_parameters

abbrev pub command_kind : CommandFault → FaultKind
command_kind bad_command = BadCommand
command_kind wrong_logic = WrongLogic
command_kind left_out = LeftOut
command_kind no_check = NoCheck
command_kind too_many_levels = TooMany Levels
command_kind too_many_checks = TooMany Checks

-- the fault of a command at this place
abbrev pub said_fault : Place → Said → Option ScriptFault
said_fault at (fails x) = Some (fault_at at (command_kind x))
said_fault at (says b c) = None

-- the command that is said, with what comes before the next one, or its fault
abbrev pub IsCommandAnswer : arena.Sexps → defined.Before → Place → Result Command ReadError → Said → Type 0
IsCommandAnswer s b at (Ok c) said = said ≡ says b (one_step (levels.command (command_of s c)))
IsCommandAnswer s b at (Err e) said = IsFaultOrMemory e (said_fault at said)

-- the first fault of commands
abbrev pub commands_fault : CommandsRead → Option ScriptFault
commands_fault (command_fault at x) = Some (fault_at at (command_kind x))
commands_fault (steps ss) = None

-- the steps of all commands, or their first fault
abbrev pub IsCourseAnswer : arena.Sexps → Result Course ReadError → CommandsRead → Type 0
IsCourseAnswer s (Ok course) read = (course.sexps.now ≡ s) × (read ≡ steps (steps_in course))
IsCourseAnswer s (Err e) read = IsFaultOrMemory e (commands_fault read)
