use Rattle.std.proofs.Common.{length, map}
use Rattle.smt_script.specs.Views.{command_of, commands_in}
use Rattle.root_rewriting.specs.Asserted.{IsAt}
use Rattle.root_rewriting.proofs.unfold.assertions.asserted.Given as goal

abbrev pub invariant-loop-rest : goal.invariant-loop-rest
invariant-loop-rest l = IsAt l.script.sexps.now (commands_in l.script) (map (command_of l.script.sexps.now) l.rest) l.progress

abbrev pub decreases-loop-rest : goal.decreases-loop-rest
decreases-loop-rest l = length l.rest
