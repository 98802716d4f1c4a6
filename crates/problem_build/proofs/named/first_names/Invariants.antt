use Rattle.std.proofs.Common.{◌≡◌, ◌++◌, List, map, length, take}
use Rattle.script_model.specs.Script.{Command}
use Rattle.smt_script.specs.Views.{command_of, commands_in}
use Rattle.problem_build.specs.Standing.{IsNamed}
use Rattle.problem_build.proofs.named.first_names.Given as goal

abbrev pub invariant-loop-rest : goal.invariant-loop-rest
invariant-loop-rest l = let s = l.script.sexps.now in
    (done : List Command) × (take l.count (commands_in l.script) ≡ done ++ map (command_of s) l.rest) × IsNamed s done l.named.top l.named.axis

abbrev pub decreases-loop-rest : goal.decreases-loop-rest
decreases-loop-rest l = length l.rest
