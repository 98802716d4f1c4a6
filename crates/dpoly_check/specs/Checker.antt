-- A run of the checker: the run of `check` that its words ask for.
use Rattle.std.specs.Prelude.{List, Option, map, option_map, string_bytes}
use Rattle.std.specs.declared.alloc.Global.{Global}
use Rattle.std.specs.declared.string.String.{String}
use Rattle.desk.specs.Sight.{Sight}
use Rattle.command_line.specs.Words.{Command, check, checker_of}
use Rattle.check_run.specs.declared.status.Status.{Status}
use Rattle.check_run.specs.Run.{Run, run_of}

-- what the words of a call ask for: a check, or none where they are refused
abbrev pub command_in : List (String Global) → Option Command
command_in words = option_map (λ asked. check asked) (checker_of (map string_bytes words))

-- the run of these words
abbrev pub run : List (String Global) → Sight → Sight → Status → Run
run words = run_of (command_in words)
