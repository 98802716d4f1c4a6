use Rattle.std.proofs.Common.{◌∙◌, ℕ, List, subst}
use Rattle.poly_graph.specs.ProblemViews.{problem_of}
use Rattle.script_reading.specs.Faults.{script_fault}
use Rattle.script_reading.specs.Reader.{HasProblem}
use Rattle.check_run.specs.Script.{IsHaltOfFault}
use Rattle.dpoly.proofs.Halting.{held_is}
use Rattle.dpoly.proofs.Joining.{faulty_ends, long_ends, problem_ends}
use Rattle.dpoly.proofs.join.join_inputs.Goals as goal

pub returns-in-None-clause-ends : goal.returns-in-None-clause-ends
returns-in-None-clause-ends g c = λ text parts held e n.
    long_ends c.args.bound text parts c.args.script.now c.too_long.result _ _ _ c.in-None.is held c.too_long.ensures c.end_halted.ensures.ends

pub returns-in-Ok-clause-ends : goal.returns-in-Ok-clause-ends
returns-in-Ok-clause-ends g c = λ text parts held e n.
    let p = problem_of c.in-Ok.problem in
    let is = c.deref.ensures.value ∙ held_is c.args.script.now c.in-Some.script text c.in-Some.is held in
    let has = subst (λ (bytes : List ℕ). HasProblem c.args.bound p bytes) is c.in-Ok.ensures in
    problem_ends c.args.bound text parts p (g.D.Desk.sight c.args.desk.now) (g.D.Desk.sight c.join_problem.new.desk) c.join_problem.result has (c.join_problem.ensures.ends parts e n)

pub returns-in-Err-clause-ends : goal.returns-in-Err-clause-ends
returns-in-Err-clause-ends g c = λ text parts held e n.
    let is = c.deref.ensures.value ∙ held_is c.args.script.now c.in-Some.script text c.in-Some.is held in
    let faulty = subst (λ (bytes : List ℕ). IsHaltOfFault (script_fault c.args.bound bytes) c.refusal.result) is (c.refusal.ensures (script_fault c.args.bound c.deref.result.now) c.in-Err.ensures) in
    faulty_ends c.args.bound text parts c.refusal.result (g.D.Desk.sight c.args.desk.now) (g.D.Desk.sight c.end_halted-in-Err.new.desk) c.end_halted-in-Err.result faulty c.end_halted-in-Err.ensures.ends
