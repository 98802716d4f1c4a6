use Rattle.std.proofs.Common.{inl, refl, subst, Option}
use Rattle.std.specs.Prelude.{option_map}
use Rattle.dyadic.specs.Views.{dyadic_of}
use Rattle.poly_graph.specs.ProblemViews.{Parts}
use Rattle.cert_check.specs.declared.fault.CertFault.TheVariants.{BadHeader}
use Rattle.cert_least.specs.Judging.{aim_of}
use Rattle.cert_least.specs.Phases.{told_of}
use Rattle.cert_least.specs.Steps.{IsLimitBy}
use Rattle.cert_least.proofs.Headers.{header_told}
use Rattle.cert_least.proofs.Lines.{limit_fails, limit_on}
use Rattle.cert_least.proofs.limit.limit_line.Goals as goal

pub returns-in-Err : goal.returns-in-Err
returns-in-Err c d h = inl refl

pub returns-in-Ok-None : goal.returns-in-Ok-None
returns-in-Ok-None c d h =
    let a = aim_of c.args.aim.now in let low = option_map dyadic_of c.args.lower in
    limit_fails a (told_of c.args.told) c.args.lower c.args.bits d h (subst (λ (o : Option Parts). IsLimitBy a low c.args.bits o) c.in-Ok-None.field-0-is c.in-Ok-None.ensures) (BadHeader 0) (record { line = 0; told = refl })

pub returns-in-Ok-Some : goal.returns-in-Ok-Some
returns-in-Ok-Some c d h =
    let a = aim_of c.args.aim.now in let low = option_map dyadic_of c.args.lower in
    limit_on a c.args.told c.args.lower c.args.bits d h c.in-Ok-Some.problem (subst (λ (o : Option Parts). IsLimitBy a low c.args.bits o) c.in-Ok-Some.field-0-is c.in-Ok-Some.ensures) c.with_limit.new.checker c.with_limit.result
    (c.with_limit.ensures (header_told (told_of c.args.told) d h))
