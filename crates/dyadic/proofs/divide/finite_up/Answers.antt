use Rattle.std.proofs.Common.{◌≡◌, ◌^◌, ◌∙◌, ◌*ℤ◌, pos, neg_ℤ, nat_abs, ap, subst}
use Rattle.dyadic.specs.Fraction.{quotient_of}
use Rattle.dyadic.specs.Rounding.{Dyadic, exact}
use Rattle.dyadic.specs.InUnits.{IsDownAt}
use Rattle.dyadic.specs.Signed.{by_sign}
use Rattle.dyadic.specs.Views.{units_of, dyadic_of}
use Rattle.dyadic.proofs.Bridge.{up_over}
use Rattle.dyadic.proofs.Flips.{up_from_flipped, flipped_from}
use Rattle.dyadic.proofs.LongQuotients.{long_over, by_sign_neg}
use Rattle.dyadic.proofs.divide.finite_up.Goals as goal

pub returns : goal.returns
returns c =
    let x = dyadic_of c.args.a in
    let y = dyadic_of c.args.b in
    let r = c.number_quotient.result in
    let turned : units_of c.neg.result ≡ neg_ℤ x.units = ap (λ (d : Dyadic). d.units) c.neg.ensures in
    up_over (quotient_of (exact x) (exact y)) (by_sign y.units x.units *ℤ pos (2 ^ 120)) (nat_abs y.units) (2 ^ 120) c.neg-2.result (long_over x y c.requires)
    (up_from_flipped (by_sign y.units x.units *ℤ pos (2 ^ 120)) (nat_abs y.units) r c.neg-2.result
    (subst (λ z. IsDownAt z (nat_abs y.units) r) (ap (λ z. by_sign y.units z *ℤ pos (2 ^ 120)) turned ∙ by_sign_neg y.units x.units (2 ^ 120)) c.number_quotient.ensures)
    (flipped_from r c.neg-2.result c.neg-2.ensures))
