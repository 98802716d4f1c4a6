use Rattle.std.proofs.lemmas.Result.{IfOk-weaker}
use Rattle.dpoly.specs.declared.answers.SearchAnswer.{SearchAnswer}
use Rattle.dpoly.proofs.SearchAnswers.{search_answer}
use Rattle.dpoly.proofs.answers.tell.Goals as goal

pub returns-in-None : goal.returns-in-None
returns-in-None c = IfOk-weaker _ _ _ (λ (told : SearchAnswer) h. search_answer _ c.args.options.now told h) c.tell_left.ensures
