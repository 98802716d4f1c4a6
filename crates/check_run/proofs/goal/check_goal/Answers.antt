use Rattle.std.proofs.Common.{ℕ, List, [], ◌∷◌, Some, Ok, Err, IfSome, subst}
use Rattle.desk.specs.declared.desk.Port.TheVariants.{CertIn}
use Rattle.command_line.specs.Words.{check}
use Rattle.poly_graph.specs.ProblemViews.{problem_of}
use Rattle.cert_model.specs.Least.{goal_verdict}
use Rattle.goal_limit.specs.Limits.{has_room}
use Rattle.cert_least.specs.Checked.{aim_at}
use Rattle.check_run.specs.declared.check.Unconfirmed.{Unconfirmed}
use Rattle.check_run.specs.Goals.{IsGoalVerdictOnPort, IsGoalReadFor}
use Rattle.check_run.proofs.Ending.{after_cert_in}
use Rattle.check_run.proofs.Running.{cause_behind}
use Rattle.check_run.proofs.GoalVerdicts.{goal_checked}
use Rattle.check_run.proofs.goal.check_goal.Goals as goal

pub returns-in-Ok-read_verdict-clause-ends : goal.returns-in-Ok-read_verdict-clause-ends
returns-in-Ok-read_verdict-clause-ends g c =
    goal_checked c.args.problem.now c.args.goal c.args.bound c.args.name.now (Ok c.in-Ok-read_verdict.verdict) _ _ _ _ _
    c.in-Ok.ensures.ok c.in-Ok-read_verdict.ensures.leaves.0 c.in-Ok-read_verdict.ensures.told c.confirm.ensures.ends

pub returns-in-Ok-read_verdict-clause-cause : goal.returns-in-Ok-read_verdict-clause-cause
returns-in-Ok-read_verdict-clause-cause g c words =
    cause_behind (Some (check words)) ((CertIn, c.args.name.now) ∷ []) (g.D.Desk.sight c.args.desk.now) (g.D.Desk.sight c.read_verdict.new.desk) (g.D.Desk.sight c.confirm.new.desk) c.confirm.result
    (after_cert_in c.args.name.now (g.D.Desk.sight c.args.desk.now) (g.D.Desk.sight c.start.new.self) (g.D.Desk.sight c.read_verdict.new.desk) c.in-Ok.ensures.ok c.in-Ok-read_verdict.ensures.leaves.0) (c.confirm.ensures.cause words)

pub returns-in-Err-Fault-clause-ends : goal.returns-in-Err-Fault-clause-ends
returns-in-Err-Fault-clause-ends g c =
    let T : Unconfirmed → Type 0 = λ x. IfSome (g.D.Desk.sight c.start.new.self).cert_in (λ (cert : List ℕ). IsGoalVerdictOnPort (aim_at c.args.problem.now c.args.goal c.args.bound) (goal_verdict (problem_of c.args.problem.now) c.args.goal (has_room (problem_of c.args.problem.now)) c.args.bound cert) (Err x)) in
    let L : Unconfirmed → Type 0 = λ x. IsGoalReadFor (Err x) (g.D.Desk.sight c.start.new.self) (g.D.Desk.sight c.read_verdict.new.desk) in
    goal_checked c.args.problem.now c.args.goal c.args.bound c.args.name.now (Err c.in-Err-Fault.fault) _ _ _ _ _
    c.in-Ok.ensures.ok (subst L c.in-Err-Fault.field-0-is c.in-Err-Fault.ensures.leaves) (subst T c.in-Err-Fault.field-0-is c.in-Err-Fault.ensures.told) c.refuse.ensures.goal

pub returns-in-Err-Fault-clause-cause : goal.returns-in-Err-Fault-clause-cause
returns-in-Err-Fault-clause-cause g c words =
    let L : Unconfirmed → Type 0 = λ x. IsGoalReadFor (Err x) (g.D.Desk.sight c.start.new.self) (g.D.Desk.sight c.read_verdict.new.desk) in
    cause_behind (Some (check words)) ((CertIn, c.args.name.now) ∷ []) (g.D.Desk.sight c.args.desk.now) (g.D.Desk.sight c.read_verdict.new.desk) (g.D.Desk.sight c.refuse.new.desk) c.refuse.result
    (after_cert_in c.args.name.now (g.D.Desk.sight c.args.desk.now) (g.D.Desk.sight c.start.new.self) (g.D.Desk.sight c.read_verdict.new.desk) c.in-Ok.ensures.ok (subst L c.in-Err-Fault.field-0-is c.in-Err-Fault.ensures.leaves)) (c.refuse.ensures.cause words)
