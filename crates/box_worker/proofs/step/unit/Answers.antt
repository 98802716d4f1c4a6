use Rattle.cover_rule.specs.Refusals.{unit_refusal, forced_by}
use Rattle.box_worker.proofs.Open.{still_open}
use Rattle.box_worker.proofs.step.unit.Goals as goal

pub returns : goal.returns
returns c = λ q m lemmas S h. still_open (unit_refusal c.args.patch.now c.args.j) c.args.patch.now (forced_by c.args.patch.now c.args.j) c.unit-answer.new.self c.unit-answer.result c.unit-answer.ensures q m lemmas S
    (λ k. record { problem = k.problem; margins = k.margins; first = k.first; among = k.among; open_end = k.open_end }) h
