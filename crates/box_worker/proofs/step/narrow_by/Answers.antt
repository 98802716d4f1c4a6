use Rattle.cover_rule.specs.Narrowers.{narrowing_of}
use Rattle.cover_rule.specs.Patch.{narrowed_in}
use Rattle.cover_rule.specs.Refusals.{narrow_refusal, narrowed_by}
use Rattle.box_worker.proofs.Open.{still_open_if_less}
use Rattle.box_worker.proofs.step.narrow_by.Goals as goal

pub returns : goal.returns
returns c = λ q m lemmas S h. let P = c.args.patch.now in let n = narrowing_of c.args.by in
    still_open_if_less (narrowed_in P n) (narrow_refusal P n) P (narrowed_by P n) c.narrow_if_less-answer.new.self c.narrow_if_less-answer.result c.narrow_if_less-answer.ensures q m lemmas S
    (λ k. record { problem = k.problem; margins = k.margins; first = k.first; among = k.among; open_end = k.open_end }) h
