use Rattle.std.proofs.Common.{◌*◌, ◌^◌, subst, ap, ◌∙◌, pos, ◌*ℤ◌}
use Rattle.std.specs.Int.RustNames.{unsigned_abs}
use Rattle.dyadic.specs.InUnits.{IsUpAt}
use Rattle.dyadic.specs.Views.{fraction_of_frac}
use Rattle.dyadic.proofs.SizePositive.{size_positive}
use Rattle.dyadic.proofs.Products.{signed_by}
use Rattle.dyadic.proofs.Rounds.{in_units}
use Rattle.dyadic.proofs.Bridge.{up_over, frac_over}
use Rattle.dyadic.proofs.quotient.up_frac.Goals as goal

pub returns : goal.returns
returns c =
    let f = c.args.f in
    let n = unsigned_abs f.n in
    let d = unsigned_abs f.d in
    let p = size_positive f.d f.lowest.positive in
    up_over (fraction_of_frac f) (in_units (fraction_of_frac f)) d 1 c.up.result (frac_over f p)
    (subst (λ z. IsUpAt z d c.up.result) (signed_by c.has_minus.result n (2 ^ 120) ∙ ap (λ z. z *ℤ pos (2 ^ 120)) c.has_minus.ensures.sign)
    (c.up.ensures (n * 2 ^ 120) d p c.frac_bracket.ensures.tight))
