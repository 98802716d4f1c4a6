use Rattle.std.proofs.Common.{◌≡◌, ◌++◌, map, take}
use Rattle.smt_script.specs.Views.{command_of}
use Rattle.smt_sexp.specs.declared.sexps.Sexps as arena
use Rattle.root_rewriting.specs.Rewriting.{declared_command}
use Rattle.root_rewriting.proofs.script.push_declared.Given as goal

abbrev pub invariant-loop-constant : goal.invariant-loop-constant
invariant-loop-constant l = (s : arena.Sexps) → map (command_of s) l.commands.items ≡ map (command_of s) l.initial.commands.items ++ map declared_command (take l.constant-index l.declared)
