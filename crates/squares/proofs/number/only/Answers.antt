use Rattle.dyadic.specs.Rounding.{exact, finite, ext_at_most}
use Rattle.dyadic.specs.Views.{dyadic_of}
use Rattle.dyadic.proofs.Equal.{both_pass}
use Rattle.interval_model.proofs.EndsProducts.{at_most_refl}
use Rattle.std.proofs.Common.{true, refl}
use Rattle.squares.proofs.number.only.Goals as goal

pub invariant_of-result : goal.invariant_of-result
invariant_of-result c = let d = dyadic_of c.args.number in record { proper = both_pass (ext_at_most (finite d) (finite d)) true (at_most_refl (exact d)) refl }
