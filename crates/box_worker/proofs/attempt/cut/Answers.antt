use Rattle.cover_rule.specs.Refusals.{cut_by, cut_refusal}
use Rattle.box_worker.proofs.attempt.cut.Goals as goal

pub returns : goal.returns
returns c = c.was_ended.ensures (cut_refusal c.args.patch.now c.args.axis) c.args.patch.now (cut_by c.args.patch.now c.args.axis) c.cut-answer.new.self c.cut-answer.ensures
