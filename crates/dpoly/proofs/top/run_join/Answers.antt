use Rattle.std.proofs.Common.{◌≡◌, Some, length, sym, ◌∙◌, arith}
use Rattle.std.proofs.lemmas.Grind.{common_steps}
use Rattle.std.proofs.lemmas.List.{length-map}
use Rattle.command_line.specs.Words.{join}
use Rattle.command_line.specs.Seen.{seen_join}
use Rattle.check_run.specs.Can.{Can}
use Rattle.check_run.specs.Joined.{join_starts}
use Rattle.check_run.proofs.RunParts.{join_draft, read_several, run_halted}
use Rattle.check_run.proofs.Running.{cause_behind}
use Rattle.dpoly.proofs.Joining.{run_several}
use Rattle.dpoly.proofs.top.run_join.Goals as goal

pub returns-in-Ok-clause-course : goal.returns-in-Ok-clause-course
returns-in-Ok-clause-course g c script cert_in parts tells =
    let all : c.len.result ≡ length c.args.asked.certs.items = grind (arith, common_steps) in
    run_several (seen_join c.args.asked) script cert_in parts c.in-Ok.script c.len.result (g.D.Desk.sight c.args.desk.now) (g.D.Desk.sight c.fetch_several.new.desk) (g.D.Desk.sight c.join_inputs.new.desk) c.join_inputs.result c.in-Ok.ensures tells.0 tells.1 tells.2
    (all ∙ sym (length-map c.args.asked.certs.items (λ s. s.now))) c.join_inputs.ensures.ends

pub returns-in-Ok-clause-cause : goal.returns-in-Ok-clause-cause
returns-in-Ok-clause-cause g c =
    cause_behind (Some (join (seen_join c.args.asked))) (join_starts (seen_join c.args.asked)) (g.D.Desk.sight c.args.desk.now) (g.D.Desk.sight c.fetch_several.new.desk) (g.D.Desk.sight c.join_inputs.new.desk) c.join_inputs.result
    c.in-Ok.ensures.after (c.join_inputs.ensures.cause (seen_join c.args.asked))

pub returns-in-Ok-clause-script : goal.returns-in-Ok-clause-script
returns-in-Ok-clause-script g c =
    read_several (seen_join c.args.asked) c.in-Ok.script (g.D.Desk.sight c.args.desk.now) (g.D.Desk.sight c.fetch_several.new.desk) (g.D.Desk.sight c.join_inputs.new.desk) c.join_inputs.result c.in-Ok.ensures c.join_inputs.ensures.script

pub returns-clause-course : goal.returns-clause-course
returns-clause-course g c script cert_in parts tells =
    run_halted (Can (Some (join (seen_join c.args.asked))) script cert_in parts) (join_starts (seen_join c.args.asked)) c.in-Err.status (g.D.Desk.sight c.args.desk.now) (g.D.Desk.sight c.fetch_several.new.desk) (join_draft (seen_join c.args.asked))
    c.in-Err.ensures.halted
