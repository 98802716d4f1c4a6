use Rattle.std.proofs.Common.{refl, ap, Err}
use Rattle.check_run.specs.Course.{out_failed, no_memory}
use Rattle.check_run.proofs.Ending.{cert_then, cert_stops}
use Rattle.check_run.proofs.ports.finish.Goals as goal

pub returns-in-Ok-clause-ends : goal.returns-in-Ok-clause-ends
returns-in-Ok-clause-ends g c = cert_then _ _ _ _ _ _ _ c.in-Ok.ensures.ok c.say.ensures.ends

pub returns-in-Err-Failed-clause-ends : goal.returns-in-Err-Failed-clause-ends
returns-in-Err-Failed-clause-ends g c =
    let failed = ap (λ e. Err e) c.in-Err-Failed.field-0-is in
    out_failed refl (c.in-Err-Failed.ensures.side failed) (cert_stops _ _ _ _ _ (c.in-Err-Failed.ensures.failed failed))

pub returns-in-Err-Memory-clause-ends : goal.returns-in-Err-Memory-clause-ends
returns-in-Err-Memory-clause-ends g c = no_memory refl (cert_stops _ _ _ _ _ (c.in-Err-Memory.ensures.memory (ap (λ e. Err e) c.in-Err-Memory.field-0-is)))
