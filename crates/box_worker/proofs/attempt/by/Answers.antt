use Rattle.cover_rule.specs.Refusals.{by_refusal, covered_by}
use Rattle.box_worker.proofs.attempt.by.Goals as goal

pub returns : goal.returns
returns c = c.was_done.ensures.done (by_refusal c.args.patch.now.kept c.args.lemma.now) c.args.patch.now (covered_by c.args.patch.now c.args.lemma.now) c.by-answer.new.self c.by-answer.ensures
