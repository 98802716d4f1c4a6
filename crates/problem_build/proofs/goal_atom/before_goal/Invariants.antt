use Rattle.std.proofs.Common.{◌≡◌, ◌+◌, ◌≤◌, map, length}
use Rattle.smt_script.specs.Views.{command_of}
use Rattle.smt_sexp.specs.declared.sexps.Sexps as arena
use Rattle.problem_build.specs.Goal.{before_goal}
use Rattle.problem_build.proofs.GoalAtom.{after_claims}
use Rattle.problem_build.proofs.goal_atom.before_goal.Given as goal

abbrev pub invariant-loop-rest : goal.invariant-loop-rest
invariant-loop-rest l = (l.before + length l.rest ≤ length l.commands) ×
    ((s : arena.Sexps) → before_goal (map (command_of s) l.commands) ≡ after_claims l.before (before_goal (map (command_of s) l.rest)))

abbrev pub decreases-loop-rest : goal.decreases-loop-rest
decreases-loop-rest l = length l.rest
