use Rattle.std.proofs.Common.{◌≡◌, ◌++◌, map, take}
use Rattle.smt_script.specs.Views.{command_of}
use Rattle.smt_sexp.specs.declared.sexps.Sexps as arena
use Rattle.root_rewriting.specs.Placing.{placed_command}
use Rattle.root_rewriting.proofs.script.push_placed.Given as goal

abbrev pub invariant-loop-assertion : goal.invariant-loop-assertion
invariant-loop-assertion l = (s : arena.Sexps) → map (command_of s) l.commands.items ≡ map (command_of s) l.initial.commands.items ++ map (placed_command s) (take l.assertion-index l.placed)
