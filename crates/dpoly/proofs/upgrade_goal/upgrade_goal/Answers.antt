use Rattle.std.proofs.Common.{ℕ, List, [], ◌∷◌, Some, Err, subst}
use Rattle.desk.specs.declared.desk.Port.TheVariants.{CertIn}
use Rattle.command_line.specs.Words.{upgrade}
use Rattle.check_run.specs.declared.check.Unconfirmed.{Unconfirmed}
use Rattle.check_run.specs.Course.{RunEnds}
use Rattle.dpoly.specs.Upgrade.{IsGoalKeptFor, IsReadAsKept, IsUpgradeOf}
use Rattle.check_run.proofs.Ending.{after_cert_in}
use Rattle.check_run.proofs.Running.{cause_behind}
use Rattle.dpoly.proofs.GoalUpgrading.{goal_upgraded_ends, goal_refused_ends}
use Rattle.dpoly.proofs.upgrade_goal.upgrade_goal.Goals as goal

pub returns-in-Ok-read_kept-clause-ends : goal.returns-in-Ok-read_kept-clause-ends
returns-in-Ok-read_kept-clause-ends g c =
    goal_upgraded_ends c.args.problem.now c.args.goal c.args.bound c.args.cert.now c.args.out.now c.in-Ok-read_kept.kept.items _ _ _ _ _
    c.in-Ok.ensures.ok c.in-Ok-read_kept.ensures.leaves.0 c.in-Ok-read_kept.ensures.told
    (subst (λ (bs : List ℕ). RunEnds (IsUpgradeOf c.args.out.now bs) [] (g.D.Desk.sight c.read_kept.new.desk) (g.D.Desk.sight c.write_upgraded.new.desk) c.write_upgraded.result) c.deref.ensures.value c.write_upgraded.ensures.ends)

pub returns-in-Ok-read_kept-clause-cause : goal.returns-in-Ok-read_kept-clause-cause
returns-in-Ok-read_kept-clause-cause g c words =
    cause_behind (Some (upgrade words)) ((CertIn, c.args.cert.now) ∷ []) (g.D.Desk.sight c.args.desk.now) (g.D.Desk.sight c.read_kept.new.desk) (g.D.Desk.sight c.write_upgraded.new.desk) c.write_upgraded.result
    (after_cert_in c.args.cert.now (g.D.Desk.sight c.args.desk.now) (g.D.Desk.sight c.start.new.self) (g.D.Desk.sight c.read_kept.new.desk) c.in-Ok.ensures.ok c.in-Ok-read_kept.ensures.leaves.0) (c.write_upgraded.ensures.cause words)

pub returns-in-Err-Fault-clause-ends : goal.returns-in-Err-Fault-clause-ends
returns-in-Err-Fault-clause-ends g c =
    let T : Unconfirmed → Type 0 = λ x. IsGoalKeptFor c.args.problem.now c.args.goal c.args.bound (g.D.Desk.sight c.start.new.self) (Err x) in
    let L : Unconfirmed → Type 0 = λ x. IsReadAsKept (Err x) (g.D.Desk.sight c.start.new.self) (g.D.Desk.sight c.read_kept.new.desk) in
    goal_refused_ends c.args.problem.now c.args.goal c.args.bound c.args.cert.now c.args.out.now c.in-Err-Fault.fault _ _ _ _ _
    c.in-Ok.ensures.ok (subst L c.in-Err-Fault.field-0-is c.in-Err-Fault.ensures.leaves) (subst T c.in-Err-Fault.field-0-is c.in-Err-Fault.ensures.told) c.refuse.ensures.refuses

pub returns-in-Err-Fault-clause-cause : goal.returns-in-Err-Fault-clause-cause
returns-in-Err-Fault-clause-cause g c words =
    let L : Unconfirmed → Type 0 = λ x. IsReadAsKept (Err x) (g.D.Desk.sight c.start.new.self) (g.D.Desk.sight c.read_kept.new.desk) in
    cause_behind (Some (upgrade words)) ((CertIn, c.args.cert.now) ∷ []) (g.D.Desk.sight c.args.desk.now) (g.D.Desk.sight c.read_kept.new.desk) (g.D.Desk.sight c.refuse.new.desk) c.refuse.result
    (after_cert_in c.args.cert.now (g.D.Desk.sight c.args.desk.now) (g.D.Desk.sight c.start.new.self) (g.D.Desk.sight c.read_kept.new.desk) c.in-Ok.ensures.ok (subst L c.in-Err-Fault.field-0-is c.in-Err-Fault.ensures.leaves)) (c.refuse.ensures.upgrade words)
