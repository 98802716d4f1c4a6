use Rattle.std.proofs.Common.{List, subst}
use Rattle.cert_check.specs.declared.checker.Verdict.{Verdict}
use Rattle.check_run.specs.Check.{AreConfirmations}
use Rattle.check_run.specs.declared.status.Status.TheVariants.{Answered}
use Rattle.check_run.proofs.Verdicts.{concluded, confirmed_course}
use Rattle.check_run.proofs.check.confirm.Goals as goal

pub returns-in-Ok-clause-ends : goal.returns-in-Ok-clause-ends
returns-in-Ok-clause-ends g c v h = concluded v Answered c.in-Ok.text.items c.deref-in-Ok.result.now _ _ _ (confirmed_course c.args.verdicts c.in-Ok.text.items (subst (λ (ws : List Verdict). AreConfirmations ws c.in-Ok.text.items) c.deref.ensures.value c.in-Ok.ensures) v h) c.deref-in-Ok.ensures.value c.say.ensures.ends
