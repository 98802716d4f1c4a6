use Rattle.cover_model.specs.Rules.{by_range, void}
use Rattle.cover_rule.specs.Refusals.{ended_with, void_refusal}
use Rattle.box_worker.proofs.attempt.void.Goals as goal

pub returns : goal.returns
returns c = c.was_ended.ensures (void_refusal c.args.patch.now (by_range c.args.j)) c.args.patch.now (ended_with c.args.patch.now (void c.args.j)) c.void-answer.new.self c.void-answer.ensures
