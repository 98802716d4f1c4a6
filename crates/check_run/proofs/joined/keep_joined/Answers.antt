use Rattle.std.proofs.Common.{◌∙◌}
use Rattle.cert_model.specs.AnswerText.{check_text}
use Rattle.check_run.proofs.Starting.{keep_ends}
use Rattle.check_run.proofs.joined.keep_joined.Goals as goal

pub returns-in-Ok-keep-clause-ends : goal.returns-in-Ok-keep-clause-ends
returns-in-Ok-keep-clause-ends g c = λ old text s v drafts is.
    keep_ends old _ (g.D.Desk.sight c.keep.new.self) _ text (check_text s v) c.deref.result.now _ drafts c.in-Ok-keep.ensures.ok (c.deref.ensures.value ∙ c.in-Ok.ensures s v is) c.say.ensures.ends
