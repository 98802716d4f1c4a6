use Rattle.std.proofs.Common.{◌≡◌, false, List, ap, sym, ◌∙◌, map, Err}
use Rattle.std.proofs.lemmas.Result.{err_from_is_err_and}
use Rattle.smt_sexp.specs.Arena.{rest_of, listed}
use Rattle.smt_script.specs.Levels.{Step, checks_of}
use Rattle.smt_script.specs.Views.{step_of, steps_in}
use Rattle.smt_script.specs.declared.command.Step as code
use Rattle.script_reading.specs.Goals.{goal_of_checks}
use Rattle.problem_build.specs.GoalStep.{has_goal}
use Rattle.problem_build.proofs.NoGoals.{no_goal}
use Rattle.problem_build.proofs.Reading.{session_answer, steps_are}
use Rattle.problem_build.proofs.plain.plain_with_goal.Goals as goal
use Rattle.problem_build.proofs.plain.plain_with_goal.Goals.{then-minimizes+in_ok-goal, else-minimizes}

pub returns-in_err-session-clause-session : goal.returns-in_err-session-clause-session
returns-in_err-session-clause-session c =
    let read = c.in_ok-sexps.ensures in
    let p = err_from_is_err_and c.from_residual-in_err-session.result c.from_residual-in_err-session.ensures.1 in
    rw (p.1, p.2)
    (session_answer c.args.bound c.args.bytes.now (listed (rest_of c.in_ok-sexps.sexps 0)) c.in_ok-course.course c.in_ok-typed.typed.course read.few read.text c.in_ok-course.ensures.1 c.in_ok-typed.ensures.0 c.in_ok-typed.ensures.1
    (Err c.in_err-session.field-0.0) c.in_err-session.ensures)

pub returns-clause-goal : goal.returns-clause-goal
returns-clause-goal c =
    let read = c.in_ok-sexps.ensures in
    let course = c.in_ok-course.course in
    let told = steps_are c.args.bytes.now (listed (rest_of c.in_ok-sexps.sexps 0)) (steps_in course) read.text c.in_ok-course.ensures.1 in
    let goal-told = sym (ap (λ (ss : List Step). goal_of_checks (checks_of ss)) told) in
    elim c.if-minimizes.branch [
      | then-minimizes+in_ok-goal w ↦ w.goal-is ∙ w.in_ok-goal.ensures (steps_in course) c.in_ok-course.ensures.1 ∙ goal-told
      | else-minimizes w ↦
          let none : has_goal (steps_in course) ≡ false =
          ap (λ (xs : List code.Step). has_goal (map (step_of course.sexps.now) xs)) (sym c.as_slice.ensures.value) ∙ sym (c.has_goal-minimizes.ensures course.sexps.now) ∙ w.if-minimizes.false in
          w.goal-is ∙ sym (no_goal (steps_in course) none) ∙ goal-told
    ]
