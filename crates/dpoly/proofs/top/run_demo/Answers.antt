use Rattle.std.proofs.Common.{ℕ, List, [], subst, ◌∙◌}
use Rattle.command_line.specs.Seen.{seen_demo}
use Rattle.poly_graph.specs.ProblemViews.{problem_of}
use Rattle.check_run.specs.Course.{RunEnds}
use Rattle.check_run.specs.Can.{CanDemo}
use Rattle.script_reading.specs.Reader.{HasProblem}
use Rattle.check_run.proofs.Running.{demo_problem}
use Rattle.script_fault.specs.declared.fault.ReadError.{ReadError}
use Rattle.script_fault.specs.Answers.{IsFaultOrMemory}
use Rattle.script_reading.specs.Faults.{script_fault}
use Rattle.dpoly.proofs.Demo.{never_refused}
use Rattle.dpoly.proofs.top.run_demo.Goals as goal

pub returns-in-Ok-read_problem-clause-course : goal.returns-in-Ok-read_problem-clause-course
returns-in-Ok-read_problem-clause-course g c script cert_in parts tells =
    let H : List ℕ → Type 0 = λ b. HasProblem c.args.asked.options.bound (problem_of c.in-Ok-read_problem.problem) b in
    let R : List ℕ → Type 0 = λ b. RunEnds (CanDemo (problem_of c.in-Ok-read_problem.problem) c.args.asked.options c.args.asked.cert.now b) []
    (g.D.Desk.sight c.args.desk.now) (g.D.Desk.sight c.solve_demo.new.desk) c.solve_demo.result in
    demo_problem (seen_demo c.args.asked) c.in-Ok.script.items (problem_of c.in-Ok-read_problem.problem) _ _ _
    (subst H c.deref.ensures.value c.in-Ok-read_problem.ensures) c.in-Ok.ensures (subst R c.deref-in-Ok-read_problem.ensures.value c.solve_demo.ensures.ends) script cert_in parts

pub unreachable-requires : goal.unreachable-requires
unreachable-requires g c =
    let R : ReadError → Type 0 = λ e. IsFaultOrMemory e (script_fault c.args.asked.options.bound c.deref.result.now) in
    never_refused c.args.asked.options.bound c.args.asked.seed c.args.asked.size c.deref.result.now c.in-Err-Fault.field-0-0
    c.requires.size_most (c.deref.ensures.value ∙ c.in-Ok.ensures) (subst R c.in-Err-Fault.field-0-is c.in-Err-Fault.ensures)
