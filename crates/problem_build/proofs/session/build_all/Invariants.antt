use Rattle.std.proofs.Common.{◌≡◌, map, length}
use Rattle.std.specs.Prelude.{reverse}
use Rattle.smt_script.specs.Views.{step_of, steps_in}
use Rattle.problem_build.specs.Session.{Goes}
use Rattle.problem_build.proofs.session.build_all.Given as goal

abbrev pub invariant-loop-step : goal.invariant-loop-step
invariant-loop-step l = let s = l.fn.typed.course.sexps.now in
    (l.going.force.script.sexps.now ≡ s) × Goes l.fn.bound (steps_in l.fn.typed.course) l.going (map (step_of s) (reverse l.left.items))

abbrev pub decreases-loop-step : goal.decreases-loop-step
decreases-loop-step l = length l.left.items
