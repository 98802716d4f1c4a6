use Rattle.cover_model.specs.Rules.{end_by, void_by}
use Rattle.cover_rule.specs.Narrowers.{narrowing_of}
use Rattle.cover_rule.specs.Refusals.{ended_with, takes_memory, void_refusal}
use Rattle.box_worker.proofs.Going.{either_answer}
use Rattle.box_worker.proofs.attempt.void_by.Goals as goal

pub returns : goal.returns
returns c =
    let P = c.args.patch.now in let n = narrowing_of c.args.by in let refusal = void_refusal P n in let done = ended_with P (end_by (void_by n)) in let Q = c.void-answer.new.self in
    either_answer (takes_memory n) refusal P done Q c.void-answer.result _ (c.was_done.ensures.done refusal P done Q) (c.was_done.ensures.ended refusal P done Q) c.void-answer.ensures
