use Rattle.std.proofs.Common.{Some, subst, sym}
use Rattle.command_line.specs.declared.request.Request.{Request}
use Rattle.command_line.specs.Seen.{seen}
use Rattle.check_run.specs.Run.{HasCourse, run_of}
use Rattle.dpoly.proofs.top.run_command.Goals as goal

pub returns-in-Solve-clause-course : goal.returns-in-Solve-clause-course
returns-in-Solve-clause-course g c =
    subst (λ (a : Request). HasCourse (run_of (Some (seen a)) (g.D.Desk.sight c.args.desk.now) (g.D.Desk.sight c.run_solve.new.desk) c.run_solve.result)) (sym c.in-Solve.is) c.run_solve.ensures.course

pub returns-in-Minimize-clause-course : goal.returns-in-Minimize-clause-course
returns-in-Minimize-clause-course g c =
    subst (λ (a : Request). HasCourse (run_of (Some (seen a)) (g.D.Desk.sight c.args.desk.now) (g.D.Desk.sight c.run_minimize.new.desk) c.run_minimize.result)) (sym c.in-Minimize.is) c.run_minimize.ensures.course

pub returns-in-Check-clause-course : goal.returns-in-Check-clause-course
returns-in-Check-clause-course g c =
    subst (λ (a : Request). HasCourse (run_of (Some (seen a)) (g.D.Desk.sight c.args.desk.now) (g.D.Desk.sight c.run_check.new.desk) c.run_check.result)) (sym c.in-Check.is) c.run_check.ensures.course

pub returns-in-Demo-clause-course : goal.returns-in-Demo-clause-course
returns-in-Demo-clause-course g c =
    subst (λ (a : Request). HasCourse (run_of (Some (seen a)) (g.D.Desk.sight c.args.desk.now) (g.D.Desk.sight c.run_demo.new.desk) c.run_demo.result)) (sym c.in-Demo.is) c.run_demo.ensures.course

pub returns-in-Upgrade-clause-course : goal.returns-in-Upgrade-clause-course
returns-in-Upgrade-clause-course g c =
    subst (λ (a : Request). HasCourse (run_of (Some (seen a)) (g.D.Desk.sight c.args.desk.now) (g.D.Desk.sight c.run_upgrade.new.desk) c.run_upgrade.result)) (sym c.in-Upgrade.is) c.run_upgrade.ensures.course

pub returns-in-Plan-clause-course : goal.returns-in-Plan-clause-course
returns-in-Plan-clause-course g c =
    subst (λ (a : Request). HasCourse (run_of (Some (seen a)) (g.D.Desk.sight c.args.desk.now) (g.D.Desk.sight c.run_plan.new.desk) c.run_plan.result)) (sym c.in-Plan.is) c.run_plan.ensures.course

pub returns-in-Resume-clause-course : goal.returns-in-Resume-clause-course
returns-in-Resume-clause-course g c =
    subst (λ (a : Request). HasCourse (run_of (Some (seen a)) (g.D.Desk.sight c.args.desk.now) (g.D.Desk.sight c.run_resume.new.desk) c.run_resume.result)) (sym c.in-Resume.is) c.run_resume.ensures.course

pub returns-in-Join-clause-course : goal.returns-in-Join-clause-course
returns-in-Join-clause-course g c =
    subst (λ (a : Request). HasCourse (run_of (Some (seen a)) (g.D.Desk.sight c.args.desk.now) (g.D.Desk.sight c.run_join.new.desk) c.run_join.result)) (sym c.in-Join.is) c.run_join.ensures.course
