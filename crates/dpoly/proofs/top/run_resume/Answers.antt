use Rattle.std.proofs.Common.{Some}
use Rattle.command_line.specs.Words.{resume}
use Rattle.command_line.specs.Seen.{seen_resume}
use Rattle.check_run.specs.Can.{both_starts}
use Rattle.check_run.proofs.RunBoth.{run_both}
use Rattle.check_run.proofs.Running.{cause_behind}
use Rattle.dpoly.proofs.top.run_resume.Goals as goal

pub returns-in-Ok-clause-course : goal.returns-in-Ok-clause-course
returns-in-Ok-clause-course g c script cert_in parts tells =
    run_both (seen_resume c.args.asked) script cert_in parts c.in-Ok.inputs _ _ _ _ c.in-Ok.ensures tells.0 tells.1 c.resume_inputs.ensures.ends

pub returns-in-Ok-clause-cause : goal.returns-in-Ok-clause-cause
returns-in-Ok-clause-cause g c =
    cause_behind (Some (resume (seen_resume c.args.asked))) (both_starts c.args.asked.script.now c.args.asked.cert.now) (g.D.Desk.sight c.args.desk.now) (g.D.Desk.sight c.fetch_both.new.desk)
    (g.D.Desk.sight c.resume_inputs.new.desk) c.resume_inputs.result c.in-Ok.ensures.after (c.resume_inputs.ensures.cause (seen_resume c.args.asked))
