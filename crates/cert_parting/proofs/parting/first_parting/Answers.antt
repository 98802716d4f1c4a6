use Rattle.std.proofs.Common.{◌+◌, suc, refl, arith}
use Rattle.cert_parting.proofs.Partings.{agreed_next, apart_next}
use Rattle.cert_parting.proofs.parting.first_parting.Goals as goal

pub returns-in-Some-clause-told : goal.returns-in-Some-clause-told
returns-in-Some-clause-told g c =
    apart_next _ _ _ _ _ _ (g.D.Desk.sight c.bits_at-in-loop-number.new.desk) c.loop-number.invariant c.loop-number-test.true c.in-Ok-bits_at.ensures.told (record { number = c.loop-number.number + 1; line = c.in-Some.line }) (omega arith) c.in-Some.ensures.0 c.in-Some.ensures.1

pub loop-number-preserved : goal.loop-number-preserved
loop-number-preserved g c =
    agreed_next _ _ _ _ _ _ _ c.loop-number.invariant c.loop-number-test.true c.in-Ok-bits_at.ensures.told (c.loop-number.number + 1) (omega arith) c.in-Ok-bits_at.ensures.read c.in-None.ensures
