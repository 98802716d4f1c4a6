use Rattle.smt_sexp.specs.Arena.{rest_of, listed}
use Rattle.problem_build.proofs.WithRoots.{rooted_session_answer}
use Rattle.problem_build.proofs.with_roots.rooted_session.Goals as goal

pub returns : goal.returns
returns c =
    let read = c.in_ok-sexps.ensures in
    rooted_session_answer c.args.bound c.args.bytes.now (listed (rest_of c.in_ok-sexps.sexps 0)) c.in_ok-course.course read.few read.text c.in_ok-course.ensures.1 c.in_ok-check_with_roots.ensures
    c.all_rewritten.result c.all_rewritten.ensures
