use Rattle.std.proofs.Common.{◌*◌, ◌^◌, ◌*ℤ◌, pos, sym, subst}
use Rattle.dyadic.specs.InUnits.{IsDownAt}
use Rattle.dyadic.specs.Signed.{by_sign}
use Rattle.dyadic.specs.Size.{units}
use Rattle.dyadic.specs.Views.{parts_units}
use Rattle.dyadic.proofs.LongQuotients.{by_parts}
use Rattle.dyadic.proofs.Mantissas.{signed_size}
use Rattle.dyadic.proofs.divide.parts_quotient.Goals as goal

pub returns : goal.returns
returns c =
    let a = c.args.a in
    let b = c.args.b in
    subst (λ d. IsDownAt (by_sign (parts_units b) (parts_units a) *ℤ pos (2 ^ 120)) d c.down.result) (sym (signed_size b.negative (units b.size)))
    (subst (λ n. IsDownAt n (units b.size) c.down.result) (by_parts a.negative b.negative (units a.size) (units b.size) c.requires)
    (c.down.ensures (units a.size * 2 ^ 120) (units b.size) c.requires c.divide_bracket.ensures.tight))
