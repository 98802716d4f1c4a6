use Rattle.std.proofs.Common.{◌≡◌, ◌++◌, List, map, length}
use Rattle.script_model.specs.Script.{Command}
use Rattle.smt_script.specs.Views.{command_of, commands_in}
use Rattle.problem_build.specs.Changes.{Starts, parts_of_made}
use Rattle.problem_build.specs.Progress.{IsBuiltBy}
use Rattle.problem_build.specs.Standing.{IsNamed}
use Rattle.problem_build.proofs.progress.Progress.add_rest.Given as goal

abbrev pub invariant-loop-rest : goal.invariant-loop-rest
invariant-loop-rest l = let s = l.script.sexps.now in
    (done : List Command) × (commands_in l.script ≡ done ++ map (command_of s) l.rest) × IsBuiltBy done l.self × IsNamed s done l.named.top l.named.axis × Starts (parts_of_made l.self.maker.made) l.fn.self.maker.made

abbrev pub decreases-loop-rest : goal.decreases-loop-rest
decreases-loop-rest l = length l.rest
