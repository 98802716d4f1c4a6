use Rattle.std.proofs.Common.{◌^◌, ap, ap₂, ◌+ℤ◌, ℤ, subst}
use Rattle.dyadic.specs.declared.dy.Ext.TheVariants.{NegInf, Fin}
use Rattle.dyadic.specs.InUnits.{IsDownAt}
use Rattle.dyadic.specs.Rounding.{dyadic_or}
use Rattle.dyadic.specs.Views.{units_of, dyadic_of}
use Rattle.dyadic.proofs.RoundsMid.{half_sum}
use Rattle.dyadic.proofs.Bridge.{down_over, half_over}
use Rattle.dyadic.proofs.Middles.{not_below_grid}
use Rattle.dyadic.proofs.middle.mid.Goals as goal

pub unreachable-requires : goal.unreachable-requires
unreachable-requires c =
    not_below_grid c.args.a c.args.b
    (subst (λ z. IsDownAt z 2 NegInf) (ap₂ (λ (x : ℤ) (y : ℤ). x +ℤ y) c.normal.ensures c.normal-2.ensures) (subst (IsDownAt _ 2) c.in-NegInf.is c.half_of.ensures))

pub returns : goal.returns
returns c =
    let a = c.args.a in
    let b = c.args.b in
    let r = Fin c.in-Fin.middle in
    ap (dyadic_or (dyadic_of a))
    (down_over (half_sum (dyadic_of a) (dyadic_of b)) (units_of a +ℤ units_of b) 2 (2 ^ 240) r (half_over (dyadic_of a) (dyadic_of b))
    (subst (λ z. IsDownAt z 2 r) (ap₂ (λ (x : ℤ) (y : ℤ). x +ℤ y) c.normal.ensures c.normal-2.ensures) (subst (IsDownAt _ 2) c.in-Fin.is c.half_of.ensures)))
