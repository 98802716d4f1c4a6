use Rattle.dyadic.specs.Views.{dyadic_of}
use Rattle.dyadic.proofs.Rounds.{exact_self}
use Rattle.cert_check.proofs.point.value.Goals as goal

pub invariant_of-result : goal.invariant_of-result
invariant_of-result c = record { upright = exact_self (dyadic_of c.in-RealValue.value) }
