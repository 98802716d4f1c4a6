use Rattle.std.proofs.Common.{◌≡◌, map, length}
use Rattle.smt_script.specs.Views.{step_of}
use Rattle.smt_sexp.specs.declared.sexps.Sexps as arena
use Rattle.problem_build.specs.GoalStep.{has_goal}
use Rattle.problem_build.proofs.goal_step.has_goal.Given as goal

abbrev pub invariant-loop-rest : goal.invariant-loop-rest
invariant-loop-rest l = (s : arena.Sexps) → has_goal (map (step_of s) l.steps) ≡ has_goal (map (step_of s) l.rest)

abbrev pub decreases-loop-rest : goal.decreases-loop-rest
decreases-loop-rest l = length l.rest
