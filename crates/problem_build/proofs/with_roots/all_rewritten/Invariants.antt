use Rattle.std.proofs.Common.{◌≡◌, map, length}
use Rattle.std.specs.Prelude.{reverse}
use Rattle.smt_script.specs.Views.{step_of, steps_in}
use Rattle.problem_build.specs.WithRoots.{GoesWithRoots}
use Rattle.problem_build.proofs.with_roots.all_rewritten.Given as goal

abbrev pub invariant-loop-step : goal.invariant-loop-step
invariant-loop-step l = let s = l.fn.course.sexps.now in
    (l.force.script.sexps.now ≡ s) × GoesWithRoots l.fn.bound (steps_in l.fn.course) l.force l.checks.items (map (step_of s) (reverse l.left.items))

abbrev pub decreases-loop-step : goal.decreases-loop-step
decreases-loop-step l = length l.left.items
