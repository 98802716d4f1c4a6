use Rattle.std.proofs.Common.{◌≡◌, ◌++◌, length, map}
use Rattle.script_roots.specs.Rewritten.{declarations}
use Rattle.smt_script.specs.Views.{command_of, commands_in}
use Rattle.root_rewriting.specs.Rewriting.{declared_command}
use Rattle.root_rewriting.proofs.rewrite.declared.Given as goal

abbrev pub invariant-loop-rest : goal.invariant-loop-rest
invariant-loop-rest l = map declared_command l.declared.items ++ declarations (map (command_of l.script.sexps.now) l.rest) ≡ declarations (commands_in l.script)

abbrev pub decreases-loop-rest : goal.decreases-loop-rest
decreases-loop-rest l = length l.rest
