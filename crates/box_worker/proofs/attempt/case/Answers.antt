use Rattle.cover_model.specs.Rules.{case}
use Rattle.cover_rule.specs.Refusals.{case_refusal, ended_with}
use Rattle.box_worker.proofs.attempt.case.Goals as goal

pub returns : goal.returns
returns c = c.was_ended.ensures (case_refusal c.args.patch.now c.args.j) c.args.patch.now (ended_with c.args.patch.now (case c.args.j)) c.case-answer.new.self c.case-answer.ensures
