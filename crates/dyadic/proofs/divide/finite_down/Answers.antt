use Rattle.std.proofs.Common.{◌^◌, ◌*ℤ◌, pos, nat_abs}
use Rattle.dyadic.specs.Fraction.{quotient_of}
use Rattle.dyadic.specs.Rounding.{exact}
use Rattle.dyadic.specs.Signed.{by_sign}
use Rattle.dyadic.specs.Views.{dyadic_of}
use Rattle.dyadic.proofs.Bridge.{down_over}
use Rattle.dyadic.proofs.LongQuotients.{long_over}
use Rattle.dyadic.proofs.divide.finite_down.Goals as goal

pub returns : goal.returns
returns c =
    let x = dyadic_of c.args.a in
    let y = dyadic_of c.args.b in
    down_over (quotient_of (exact x) (exact y)) (by_sign y.units x.units *ℤ pos (2 ^ 120)) (nat_abs y.units) (2 ^ 120) c.number_quotient.result (long_over x y c.requires) c.number_quotient.ensures
