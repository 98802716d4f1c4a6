use Rattle.std.proofs.Common.{◌≡◌, ap, Err, ℕ, List, Option, None, refl, subst, sym}
use Rattle.command_line.specs.Words.{Command}
use Rattle.check_run.specs.Course.{says, on_course}
use Rattle.check_run.specs.Can.{usage_text}
use Rattle.check_run.specs.Run.{command_in, HasCourse, run_of}
use Rattle.check_run.specs.declared.status.Status.TheVariants.{Usage}
use Rattle.check_run.proofs.Shown.{status_is_due, status_is_shown}
use Rattle.check_run.proofs.Headline.{answers_are_true, unsat_is_true, delta_sat_is_true, refusal_is_true, upgrade_is_true, plan_is_true}
use Rattle.problem_build.proofs.One.{session_one}
use Rattle.dpoly.proofs.top.run_top.Goals as goal

pub returns-in-Ok-clause-shows : goal.returns-in-Ok-clause-shows
returns-in-Ok-clause-shows g c =
    status_is_shown _ (subst (λ (o : Option Command). HasCourse (run_of o (g.D.Desk.sight c.args.desk.now) (g.D.Desk.sight c.run_command.new.desk) c.run_command.result)) (sym c.in-Ok.ensures.ok) c.run_command.ensures.course)

pub returns-in-Ok-clause-complete : goal.returns-in-Ok-clause-complete
returns-in-Ok-clause-complete g c =
    status_is_due _ (subst (λ (o : Option Command). HasCourse (run_of o (g.D.Desk.sight c.args.desk.now) (g.D.Desk.sight c.run_command.new.desk) c.run_command.result)) (sym c.in-Ok.ensures.ok) c.run_command.ensures.course)

pub returns-in-Ok-clause-answers : goal.returns-in-Ok-clause-answers
returns-in-Ok-clause-answers g c =
    answers_are_true _ (subst (λ (o : Option Command). HasCourse (run_of o (g.D.Desk.sight c.args.desk.now) (g.D.Desk.sight c.run_command.new.desk) c.run_command.result)) (sym c.in-Ok.ensures.ok) c.run_command.ensures.course)

pub returns-in-Ok-clause-unsat : goal.returns-in-Ok-clause-unsat
returns-in-Ok-clause-unsat g c =
    unsat_is_true _ (subst (λ (o : Option Command). HasCourse (run_of o (g.D.Desk.sight c.args.desk.now) (g.D.Desk.sight c.run_command.new.desk) c.run_command.result)) (sym c.in-Ok.ensures.ok) c.run_command.ensures.course)

pub returns-in-Ok-clause-delta_sat : goal.returns-in-Ok-clause-delta_sat
returns-in-Ok-clause-delta_sat g c =
    delta_sat_is_true _ (subst (λ (o : Option Command). HasCourse (run_of o (g.D.Desk.sight c.args.desk.now) (g.D.Desk.sight c.run_command.new.desk) c.run_command.result)) (sym c.in-Ok.ensures.ok) c.run_command.ensures.course)

pub returns-in-Ok-clause-refused : goal.returns-in-Ok-clause-refused
returns-in-Ok-clause-refused g c =
    refusal_is_true _ (subst (λ (o : Option Command). HasCourse (run_of o (g.D.Desk.sight c.args.desk.now) (g.D.Desk.sight c.run_command.new.desk) c.run_command.result)) (sym c.in-Ok.ensures.ok) c.run_command.ensures.course)

pub returns-in-Ok-clause-upgraded : goal.returns-in-Ok-clause-upgraded
returns-in-Ok-clause-upgraded g c =
    upgrade_is_true _ (subst (λ (o : Option Command). HasCourse (run_of o (g.D.Desk.sight c.args.desk.now) (g.D.Desk.sight c.run_command.new.desk) c.run_command.result)) (sym c.in-Ok.ensures.ok) c.run_command.ensures.course)

pub returns-in-Ok-clause-planned : goal.returns-in-Ok-clause-planned
returns-in-Ok-clause-planned g c =
    plan_is_true session_one _ (subst (λ (o : Option Command). HasCourse (run_of o (g.D.Desk.sight c.args.desk.now) (g.D.Desk.sight c.run_command.new.desk) c.run_command.result)) (sym c.in-Ok.ensures.ok) c.run_command.ensures.course)

pub returns-in-Err-Usage-clause-complete : goal.returns-in-Err-Usage-clause-complete
returns-in-Err-Usage-clause-complete g c =
    let refused : command_in c.args.words.now ≡ None = c.in-Err-Usage.ensures.usage (ap (λ e. Err e) c.in-Err-Usage.field-0-is) in
    status_is_due _ (subst (λ (o : Option Command). HasCourse (run_of o (g.D.Desk.sight c.args.desk.now) (g.D.Desk.sight c.say.new.desk) c.say.result)) (sym refused) (λ (script cert_in : List ℕ) (parts : List (List ℕ)) tells. on_course (says Usage usage_text) refl c.say.ensures.ends))
