use Rattle.cover_rule.specs.Refusals.{forced_by, unit_refusal}
use Rattle.box_worker.proofs.attempt.unit.Goals as goal

pub returns : goal.returns
returns c = c.was_done.ensures.done (unit_refusal c.args.patch.now c.args.j) c.args.patch.now (forced_by c.args.patch.now c.args.j) c.unit-answer.new.self c.unit-answer.ensures
