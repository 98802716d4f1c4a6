use Rattle.std.proofs.lemmas.Result.{err_from_is_err_and}
use Rattle.smt_sexp.specs.Arena.{rest_of, listed}
use Rattle.std.proofs.Common.{ap, ◌∙◌}
use Rattle.script_forms.specs.Atoms.{goal_atom}
use Rattle.smt_script.specs.Views.{commands_in}
use Rattle.sort_check.specs.Levels.{course_fault}
use Rattle.script_reading.specs.Faults.{in_checks}
use Rattle.problem_build.proofs.Reading.{bytes_refused, commands_refused, sorts_refused, checks_refused, building_refused, problem_had, script_is, whole_built}
use Rattle.problem_build.proofs.plain.plain_goal.Goals as goal

pub returns-in_err-sexps : goal.returns-in_err-sexps
returns-in_err-sexps c =
    let p = err_from_is_err_and c.from_residual.result c.from_residual.ensures.1 in
    rw (p.1, p.2) (bytes_refused course_fault (in_checks c.args.bound) c.args.bytes.now c.in_err-sexps.field-0.0 c.in_err-sexps.ensures)

pub returns-in_err-course : goal.returns-in_err-course
returns-in_err-course c =
    let read = c.in_ok-sexps.ensures in
    let p = err_from_is_err_and c.from_residual-in_err-course.result c.from_residual-in_err-course.ensures.1 in
    rw (p.1, p.2) (commands_refused course_fault (in_checks c.args.bound) c.args.bytes.now c.in_err-course.field-0.0 read.few (listed (rest_of c.in_ok-sexps.sexps 0)) read.text c.in_err-course.ensures)

pub returns-in_err-typed : goal.returns-in_err-typed
returns-in_err-typed c =
    let read = c.in_ok-sexps.ensures in
    let p = err_from_is_err_and c.from_residual-in_err-typed.result c.from_residual-in_err-typed.ensures.1 in
    rw (p.1, p.2) (sorts_refused course_fault (in_checks c.args.bound) c.args.bytes.now c.in_err-typed.field-0.0 read.few (listed (rest_of c.in_ok-sexps.sexps 0)) read.text c.in_ok-course.course c.in_ok-course.ensures.1 c.in_err-typed.ensures)

pub returns-in_err-only : goal.returns-in_err-only
returns-in_err-only c =
    let read = c.in_ok-sexps.ensures in
    let p = err_from_is_err_and c.from_residual-in_err-only.result c.from_residual-in_err-only.ensures.1 in
    rw (p.1, p.2) (checks_refused c.args.bound c.args.bytes.now c.in_err-only.field-0.0 read.few (listed (rest_of c.in_ok-sexps.sexps 0)) read.text c.in_ok-course.course c.in_ok-course.ensures.1
    c.in_ok-typed.typed.course c.in_ok-typed.ensures.0 c.in_ok-typed.ensures.1 c.in_err-only.ensures)

pub returns-in_err-problem : goal.returns-in_err-problem
returns-in_err-problem c =
    let read = c.in_ok-sexps.ensures in
    let p = err_from_is_err_and c.from_residual-in_err-problem.result c.from_residual-in_err-problem.ensures.1 in
    rw (p.1, p.2) (building_refused c.args.bound c.args.bytes.now c.in_err-problem.field-0.0 read.few (listed (rest_of c.in_ok-sexps.sexps 0)) read.text c.in_ok-course.course c.in_ok-course.ensures.1
    c.in_ok-typed.typed.course c.in_ok-typed.ensures.0 c.in_ok-typed.ensures.1 c.in_ok-only.only.script c.in_ok-only.ensures c.in_err-problem.ensures.builds)

pub goal_of-goal-requires : goal.goal_of-goal-requires
goal_of-goal-requires c =
    let made = c.in_ok-problem.ensures in
    (c.args.bound, whole_built c.args.bound (commands_in c.in_ok-only.only.script) c.in_ok-only.only.sorted c.in_ok-problem.problem c.axes.ensures.whole made.lean made.order made.ends made.builds.1)

pub returns : goal.returns
returns c =
    let read = c.in_ok-sexps.ensures in
    let made = c.in_ok-problem.ensures in
    let es = listed (rest_of c.in_ok-sexps.sexps 0) in
    let course = c.in_ok-course.course in
    let typed = c.in_ok-typed.typed.course in
    let only = c.in_ok-only.only.script in (
      problem_had c.args.bound c.args.bytes.now es course typed only read.few read.text c.in_ok-course.ensures.1 c.in_ok-typed.ensures.0 c.in_ok-typed.ensures.1 c.in_ok-only.ensures c.in_ok-only.only.sorted
          c.in_ok-problem.problem c.axes.ensures.whole made.lean made.order made.ends made.builds,
      c.goal_of-goal.ensures ∙ ap goal_atom (script_is c.args.bound c.args.bytes.now es course typed only read.few read.text c.in_ok-course.ensures.1 c.in_ok-typed.ensures.0 c.in_ok-typed.ensures.1 c.in_ok-only.ensures
          c.in_ok-only.only.sorted),
    )
