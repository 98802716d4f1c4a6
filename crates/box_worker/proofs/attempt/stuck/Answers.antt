use Rattle.cover_model.specs.Rules.{stuck}
use Rattle.cover_rule.specs.Refusals.{ended_with, stuck_refusal}
use Rattle.box_worker.proofs.attempt.stuck.Goals as goal

pub returns : goal.returns
returns c = c.was_ended.ensures (stuck_refusal c.args.patch.now c.args.j) c.args.patch.now (ended_with c.args.patch.now (stuck c.args.j)) c.stuck-answer.new.self c.stuck-answer.ensures
