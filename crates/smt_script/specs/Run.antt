-- The commands of a script, one after the other.
use Rattle.std.specs.Prelude.{◌≡◌, ℕ, List, ◌++◌, Option, Some, None, Result, Ok, Err, map}
use Rattle.script_model.specs.Sexp.{Place, Sexps}
use Rattle.script_model.specs.Reading.{found}
use Rattle.smt_sexp.specs.Arena.{rest_of, listed}
use Rattle.smt_sexp.specs.declared.sexps.Sexps as arena
use Rattle.smt_script.specs.Levels as levels
use Rattle.smt_script.specs.Commands as defined
use Rattle.smt_script.specs.Commands.{Said, says, fails, bad_command, by_head, command_words, CommandsRead, steps, command_fault, steps_from, at_end}
use Rattle.smt_script.specs.Forms.{Behind}
use Rattle.script_fault.specs.Answers.{IsFaultOrMemory}
use Rattle.script_fault.specs.declared.fault.ReadError.{ReadError}
use Rattle.smt_script.specs.CommandAnswers.{said_fault, commands_fault}
use Rattle.smt_script.specs.Views.{step_of}
use Rattle.smt_script.specs.declared.found.Before.{Before}
use Rattle.smt_script.specs.declared.command.Step.{Step}

abbrev pub before_of : Before → defined.Before
before_of b = record { logic = b.logic; goal = b.goal; checks = b.checks; levels = b.levels; ended = b.ended }

-- a group with this first symbol and these arguments
abbrev pub by_first : defined.Before → Place → Option (Place × List ℕ × Sexps) → Said
by_first b at None = fails bad_command
by_first b at (Some (p, w, args)) = by_head b at (found w command_words) args

-- what is said is done behind these steps
pub record Says (s : arena.Sexps) (b : defined.Before) (old new : List Step) (said : Said) : Type 0 where
  pub made : List levels.Step
  pub said_so : said ≡ says b made
  pub added : map (step_of s) new ≡ map (step_of s) old ++ made

-- the steps of the command that is said, with what comes before the next one, or its fault
abbrev pub GivesNext : arena.Sexps → Place → List Step → List Step → Result Before ReadError → Said → Type 0
GivesNext s at old new (Ok b) said = Says s (before_of b) old new said
GivesNext s at old new (Err e) said = IsFaultOrMemory e (said_fault at said)

-- steps before others
abbrev pub with_front : List levels.Step → CommandsRead → CommandsRead
with_front ss (steps rest) = steps (ss ++ rest)
with_front ss (command_fault at f) = command_fault at f

-- these steps go on to those, from one place to another
pub record GoesOn (s : arena.Sexps) (b next : defined.Before) (at after : ℕ) (old new : List Step) : Type 0 where
  pub made : List levels.Step
  pub read : steps_from b (listed (rest_of s at)) ≡ with_front made (steps_from next (listed (rest_of s after)))
  pub added : map (step_of s) new ≡ map (step_of s) old ++ made
  pub behind : Behind s at after

-- the end of the commands, the steps of the first of them with the place behind it, or their first fault
abbrev pub Steps : arena.Sexps → defined.Before → ℕ → List Step → List Step → Result (Option (Before × ℕ)) ReadError → Type 0
Steps s b at old new (Ok None) = (steps_from b (listed (rest_of s at)) ≡ at_end b) × (new ≡ old)
Steps s b at old new (Ok (Some (next, after))) = GoesOn s b (before_of next) at after old new
Steps s b at old new (Err e) = IsFaultOrMemory e (commands_fault (steps_from b (listed (rest_of s at))))
