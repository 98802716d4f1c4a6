use Rattle.cover_model.specs.Rules.{flip}
use Rattle.cover_rule.specs.Refusals.{ended_with, flip_refusal}
use Rattle.box_worker.proofs.attempt.flip.Goals as goal

pub returns : goal.returns
returns c = c.was_ended.ensures (flip_refusal c.args.patch.now c.args.axis) c.args.patch.now (ended_with c.args.patch.now (flip c.args.axis)) c.flip-answer.new.self c.flip-answer.ensures
