use Rattle.dyadic.specs.Views.{dyadic_of}
use Rattle.dyadic.proofs.Rounds.{exact_self}
use Rattle.ival.proofs.part.middle_of.Goals as goal

pub invariant_of-result : goal.invariant_of-result
invariant_of-result c = record { upright = exact_self (dyadic_of c.mid-middle.result) }
