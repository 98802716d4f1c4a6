use Rattle.std.proofs.Common.{◌≡◌, map, length}
use Rattle.smt_script.specs.Levels.{Levels}
use Rattle.smt_script.specs.Views.{step_of, steps_in}
use Rattle.sort_check.specs.Levels.{course_fault_from, course_fault_in}
use Rattle.sort_check.specs.Scopes.{InForce}
use Rattle.sort_check.specs.Views.{theory_names}
use Rattle.sort_check.proofs.commands.sorts.Given as goal

abbrev pub invariant-loop-rest : goal.invariant-loop-rest
invariant-loop-rest l = let theory = theory_names l.theory in
    (open_levels : Levels) × InForce theory l.course.sexps.now l.scope open_levels ×
    (course_fault_in theory (steps_in l.course) ≡ course_fault_from theory open_levels (map (step_of l.course.sexps.now) l.rest))

abbrev pub decreases-loop-rest : goal.decreases-loop-rest
decreases-loop-rest l = length l.rest
