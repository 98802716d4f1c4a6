use Rattle.std.proofs.lemmas.Result.{err_from_is_err_and}
use Rattle.smt_sexp.specs.Arena.{rest_of, listed}
use Rattle.sort_check.specs.Levels.{course_fault}
use Rattle.script_reading.specs.Faults.{in_each_check}
use Rattle.problem_build.proofs.Reading.{bytes_refused, commands_refused, sorts_refused, session_answer}
use Rattle.problem_build.proofs.plain.plain_session.Goals as goal

pub returns-in_err-sexps : goal.returns-in_err-sexps
returns-in_err-sexps c =
    let p = err_from_is_err_and c.from_residual.result c.from_residual.ensures.1 in
    rw (p.1, p.2) (bytes_refused course_fault (in_each_check c.args.bound) c.args.bytes.now c.in_err-sexps.field-0.0 c.in_err-sexps.ensures)

pub returns-in_err-course : goal.returns-in_err-course
returns-in_err-course c =
    let read = c.in_ok-sexps.ensures in
    let p = err_from_is_err_and c.from_residual-in_err-course.result c.from_residual-in_err-course.ensures.1 in
    rw (p.1, p.2) (commands_refused course_fault (in_each_check c.args.bound) c.args.bytes.now c.in_err-course.field-0.0 read.few (listed (rest_of c.in_ok-sexps.sexps 0)) read.text c.in_err-course.ensures)

pub returns-in_err-typed : goal.returns-in_err-typed
returns-in_err-typed c =
    let read = c.in_ok-sexps.ensures in
    let p = err_from_is_err_and c.from_residual-in_err-typed.result c.from_residual-in_err-typed.ensures.1 in
    rw (p.1, p.2)
    (sorts_refused course_fault (in_each_check c.args.bound) c.args.bytes.now c.in_err-typed.field-0.0 read.few (listed (rest_of c.in_ok-sexps.sexps 0)) read.text c.in_ok-course.course c.in_ok-course.ensures.1 c.in_err-typed.ensures)

pub returns : goal.returns
returns c =
    let read = c.in_ok-sexps.ensures in
    session_answer c.args.bound c.args.bytes.now (listed (rest_of c.in_ok-sexps.sexps 0)) c.in_ok-course.course c.in_ok-typed.typed.course read.few read.text c.in_ok-course.ensures.1 c.in_ok-typed.ensures.0 c.in_ok-typed.ensures.1
    c.build_all.result c.build_all.ensures
