use Rattle.smt_sexp.specs.Arena.{rest_of, listed}
use Rattle.smt_script.specs.Views.{commands_in}
use Rattle.problem_build.proofs.WithRoots.{problem_answer}
use Rattle.problem_build.proofs.with_roots.rooted_goal.Goals as goal

pub returns : goal.returns
returns c =
    let read = c.in_ok-sexps.ensures in
    problem_answer c.args.bound c.args.bytes.now (listed (rest_of c.in_ok-sexps.sexps 0)) c.in_ok-course.course read.few read.text c.in_ok-course.ensures.1 c.in_ok-check_with_roots.ensures
    (commands_in c.in_ok-script.script) c.in_ok-script.ensures c.rewritten_problem.result c.rewritten_problem.ensures
