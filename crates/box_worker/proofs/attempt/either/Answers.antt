use Rattle.cover_model.specs.Rules.{either}
use Rattle.cover_rule.specs.Refusals.{either_refusal, ended_with}
use Rattle.box_worker.proofs.attempt.either.Goals as goal

pub returns : goal.returns
returns c =
    let P = c.args.patch.now in let js = c.args.first.items in let ks = c.args.second.items in
    c.was_ended.ensures (either_refusal P js ks) P (ended_with P (either js ks)) c.either-answer.new.self c.either-answer.ensures
