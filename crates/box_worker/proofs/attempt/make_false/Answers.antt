use Rattle.cover_model.specs.Rules.{make_false}
use Rattle.cover_rule.specs.Refusals.{ended_with, false_refusal}
use Rattle.box_worker.proofs.attempt.make_false.Goals as goal

pub returns : goal.returns
returns c = c.was_ended.ensures (false_refusal c.args.patch.now) c.args.patch.now (ended_with c.args.patch.now make_false) c.make_false-answer.new.self c.make_false-answer.ensures
