use Rattle.std.proofs.Common.{sym, subst}
use Rattle.std.specs.Prelude.{Result}
use Rattle.script_forms.specs.Walk.{after_event}
use Rattle.script_forms.specs.Work.{reached}
use Rattle.term_build.specs.Does.{Does}
use Rattle.term_build.specs.declared.connectives.Pair.{Pair}
use Rattle.term_build.specs.declared.sketch.Arm.{Arm}
use Rattle.term_build.specs.declared.stop.Stop.{Stop}
use Rattle.term_build.proofs.Emits.{err_is}
use Rattle.value_build.proofs.lift.part.Goals as goal

pub returns-in_err-reach-clause-does : goal.returns-in_err-reach-clause-does
returns-in_err-reach-clause-does c = subst (λ (r : Result (Pair × Arm × Arm) Stop). Does c.args.builder.now c.reach.new.self (λ claim s. after_event claim s reached) r (λ _. Unit {0})) (sym (err_is c.from_residual.result c.in_err-reach.field-0.0 c.from_residual.ensures)) c.in_err-reach.ensures.does
