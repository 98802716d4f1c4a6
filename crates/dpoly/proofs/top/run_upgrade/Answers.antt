use Rattle.std.proofs.Common.{◌≡◌, ℕ, List, [], ◌∷◌, Option, Some, subst, ◌∙◌}
use Rattle.desk.specs.declared.desk.Port.TheVariants.{CertIn}
use Rattle.command_line.specs.Words.{upgrade}
use Rattle.command_line.specs.Seen.{seen_upgrade}
use Rattle.problem_session.specs.Session.{problems_of}
use Rattle.script_reading.specs.Faults.{session_fault}
use Rattle.script_reading.specs.Goals.{goal_in}
use Rattle.check_run.specs.Course.{RunEnds}
use Rattle.check_run.specs.Can.{CanUpgrade, OfSession}
use Rattle.check_run.specs.Script.{script_start}
use Rattle.check_run.proofs.Running.{cause_behind, run_session, run_halted, told}
use Rattle.dpoly.proofs.top.run_upgrade.Goals as goal

pub returns-in-Ok-clause-course : goal.returns-in-Ok-clause-course
returns-in-Ok-clause-course g c script cert_in parts tells =
    let name : List ℕ = c.args.asked.cert.now in
    let out : List ℕ = c.args.asked.out.now in
    let session = problems_of c.in-Ok.read.session in
    let R : Option ℕ → List ℕ → Type 0 = λ goal cert. RunEnds (CanUpgrade goal session c.args.asked.bound name out cert) ((CertIn, name) ∷ [])
    (g.D.Desk.sight c.fetch_with_goal.new.desk) (g.D.Desk.sight c.upgrade_read.new.desk) c.upgrade_read.result in
    let is = told (λ (text : List ℕ). c.in-Ok.read.goal ≡ goal_in c.args.asked.bound text) _ script tells.0 c.in-Ok.ensures.goal in
    let ends = told (R c.in-Ok.read.goal) _ cert_in (c.in-Ok.ensures.other ∙ tells.1) c.upgrade_read.ensures.ends in
    run_session c.args.asked.bound c.args.asked.script.now script (λ ps. CanUpgrade (goal_in c.args.asked.bound script) ps c.args.asked.bound name out cert_in) ((CertIn, name) ∷ []) _ _ _ _
    session c.in-Ok.ensures.script tells.0 (subst (λ (goal : Option ℕ). R goal cert_in) is ends)

pub returns-in-Err-clause-course : goal.returns-in-Err-clause-course
returns-in-Err-clause-course g c script cert_in parts tells =
    run_halted (session_fault c.args.asked.bound) c.args.asked.script.now script
    (OfSession c.args.asked.bound script (λ ps. CanUpgrade (goal_in c.args.asked.bound script) ps c.args.asked.bound c.args.asked.cert.now c.args.asked.out.now cert_in)) ((CertIn, c.args.asked.cert.now) ∷ []) _ _ _ _
    c.in-Err.stop c.in-Err.ensures.script tells.0 c.end_halted.ensures.ends

pub returns-in-Ok-clause-cause : goal.returns-in-Ok-clause-cause
returns-in-Ok-clause-cause g c =
    cause_behind (Some (upgrade (seen_upgrade c.args.asked))) (script_start c.args.asked.script.now) (g.D.Desk.sight c.args.desk.now) (g.D.Desk.sight c.fetch_with_goal.new.desk)
    (g.D.Desk.sight c.upgrade_read.new.desk) c.upgrade_read.result c.in-Ok.ensures.script.after (c.upgrade_read.ensures.cause (seen_upgrade c.args.asked))
