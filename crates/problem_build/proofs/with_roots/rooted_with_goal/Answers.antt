use Rattle.std.proofs.Common.{◌≡◌, false, List, ap, sym, ◌∙◌, map}
use Rattle.smt_sexp.specs.Arena.{rest_of, listed}
use Rattle.smt_script.specs.Levels.{Step, checks_of}
use Rattle.smt_script.specs.Views.{step_of, steps_in}
use Rattle.smt_script.specs.declared.command.Step as code
use Rattle.script_reading.specs.Goals.{goal_of_checks}
use Rattle.problem_build.specs.GoalStep.{has_goal}
use Rattle.problem_build.specs.WithRoots.{rewritten_checks}
use Rattle.problem_build.proofs.NoGoals.{no_rooted_goal}
use Rattle.problem_build.proofs.Reading.{steps_are}
use Rattle.problem_build.proofs.with_roots.rooted_with_goal.Goals as goal
use Rattle.problem_build.proofs.with_roots.rooted_with_goal.Goals.{then-minimizes+in_ok-goal, else-minimizes}

pub returns-clause-goal : goal.returns-clause-goal
returns-clause-goal c =
    let read = c.in_ok-sexps.ensures in
    let course = c.in_ok-course.course in
    let told = steps_are c.args.bytes.now (listed (rest_of c.in_ok-sexps.sexps 0)) (steps_in course) read.text c.in_ok-course.ensures.1 in
    elim c.if-minimizes.branch [
      | then-minimizes+in_ok-goal w ↦ w.goal-is ∙ w.in_ok-goal.ensures
      | else-minimizes w ↦
          let none : has_goal (steps_in course) ≡ false =
          ap (λ (xs : List code.Step). has_goal (map (step_of course.sexps.now) xs)) (sym c.as_slice.ensures.value) ∙ sym (c.has_goal-minimizes.ensures course.sexps.now) ∙ w.if-minimizes.false in
          w.goal-is ∙ sym (no_rooted_goal c.args.bound (steps_in course) none)
          ∙ sym (ap (λ (ss : List Step). goal_of_checks (rewritten_checks c.args.bound (checks_of ss))) told)
    ]
