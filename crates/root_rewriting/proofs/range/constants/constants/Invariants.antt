use Rattle.std.proofs.Common.{◌≡◌, ◌++◌, drop, map}
use Rattle.script_model.specs.Script.{constants_of}
use Rattle.smt_script.specs.Views.{command_of}
use Rattle.root_rewriting.specs.Constants.{constant_of}
use Rattle.root_rewriting.proofs.range.constants.constants.Given as goal

-- those that were found, and those of the commands that are left
abbrev pub invariant-loop-command : goal.invariant-loop-command
invariant-loop-command l = map constant_of l.constants.items ++ constants_of (map (command_of l.script.sexps.now) (drop l.command-index l.commands)) ≡ constants_of (map (command_of l.script.sexps.now) l.commands)
