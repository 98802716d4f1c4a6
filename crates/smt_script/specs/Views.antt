-- How commands of the code are seen.
use Rattle.std.specs.Prelude.{List, map}
use Rattle.dyadic.specs.Point as point
use Rattle.script_model.specs.Script as script
use Rattle.smt_sexp.specs.Views.{place_of}
use Rattle.smt_sexp.specs.Arena.{expression_at, rest_of}
use Rattle.smt_sexp.specs.declared.sexps.Sexps as arena
use Rattle.smt_script.specs.Commands as commands
use Rattle.smt_script.specs.declared.command.Sort.{Sort}
use Rattle.smt_script.specs.declared.command.Sort.TheVariants.{Real, Bool as BoolSort}
use Rattle.smt_script.specs.declared.command.Parameter.{Parameter}
use Rattle.smt_script.specs.declared.command.Command.{Command}
use Rattle.smt_script.specs.declared.command.Command.TheVariants as made
use Rattle.smt_script.specs.declared.command.Script.{Script}
use Rattle.smt_script.specs.declared.command.Step.{Step}
use Rattle.smt_script.specs.declared.command.Step.TheVariants as does
use Rattle.smt_script.specs.declared.command.Course.{Course}
use Rattle.smt_script.specs.Levels as levels
use Rattle.smt_script.specs.declared.words.Word.{Word}
use Rattle.smt_script.specs.declared.words.Word.TheVariants.{SetsLogic, Informs, Echoes, GetsModel, GetsValues, Declares, DeclaresFunction, Defines, Asserts, Minimizes, Checks, Exits, Pushes, Pops, Assumes, Drops, Restarts, StaysOut}
use Rattle.smt_script.specs.declared.words.SortForm.{SortForm}
use Rattle.smt_script.specs.declared.words.SortForm.TheVariants.{NoSort, Other, One}

abbrev pub sort_of : Sort → point.Sort
sort_of Real = point.real_sort
sort_of BoolSort = point.bool_sort

abbrev pub form_of : SortForm → commands.SortForm
form_of NoSort = commands.no_sort
form_of Other = commands.other_sort
form_of (One s) = commands.one_sort (sort_of s)

abbrev pub word_of : Word → commands.Word
word_of SetsLogic = commands.sets_logic
word_of Informs = commands.informs
word_of Echoes = commands.echoes
word_of GetsModel = commands.gets_model
word_of GetsValues = commands.gets_values
word_of Declares = commands.declares
word_of DeclaresFunction = commands.declares_function
word_of Defines = commands.defines
word_of Asserts = commands.asserts
word_of Minimizes = commands.minimizes
word_of Checks = commands.checks
word_of Exits = commands.exits
word_of Pushes = commands.pushes
word_of Pops = commands.pops
word_of Assumes = commands.assumes
word_of Drops = commands.drops
word_of Restarts = commands.restarts
word_of StaysOut = commands.stays_out

abbrev pub parameter_of : Parameter → script.Parameter
parameter_of p = record { at = place_of p.place; name = p.name.now; sort = sort_of p.sort }

-- a command over these expressions
abbrev pub command_of : arena.Sexps → Command → script.Command
command_of s (made.Declare at name sort) = script.declare (place_of at) name.now (sort_of sort)
command_of s (made.Define at name params sort body) = script.define (place_of at) name.now (map parameter_of params.items) (sort_of sort) (expression_at s body)
command_of s (made.Assert at body) = script.claim (place_of at) (expression_at s body)
command_of s (made.Minimize at body) = script.minimize (place_of at) (expression_at s body)
command_of s (made.Check at) = script.check (place_of at)
command_of s (made.Ineffective at) = script.ineffective (place_of at)

-- a step over these expressions
abbrev pub step_of : arena.Sexps → Step → levels.Step
step_of s (does.Command c) = levels.command (command_of s c)
step_of s (does.Push at n) = levels.opens (place_of at) n
step_of s (does.Pop at n) = levels.closes (place_of at) n
step_of s (does.Reset at) = levels.resets (place_of at)
step_of s (does.Values at first) = levels.asks_values (place_of at) (rest_of s first)

-- the steps of a text
abbrev pub steps_in : Course → List levels.Step
steps_in c = map (step_of c.sexps.now) c.steps.items

-- the commands of a script with one check
abbrev pub commands_in : Script → List script.Command
commands_in s = map (command_of s.sexps.now) s.commands.items
