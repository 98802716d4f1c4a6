use Rattle.std.proofs.Common.{◌≡◌, ◌++◌, map, length}
use Rattle.script_model.specs.Script.{constants_of}
use Rattle.smt_script.specs.Views.{command_of}
use Rattle.smt_sexp.specs.declared.sexps.Sexps as arena
use Rattle.declared_box.specs.Axes.{constant_of}
use Rattle.problem_build.proofs.script.constants.Given as goal

abbrev pub invariant-loop-rest : goal.invariant-loop-rest
invariant-loop-rest l = (s : arena.Sexps) → constants_of (map (command_of s) l.commands) ≡ map constant_of l.constants.items ++ constants_of (map (command_of s) l.rest)

abbrev pub decreases-loop-rest : goal.decreases-loop-rest
decreases-loop-rest l = length l.rest
