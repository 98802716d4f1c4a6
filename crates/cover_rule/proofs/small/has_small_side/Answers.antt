use Rattle.std.proofs.Common.{◌∙◌, ap}
use Rattle.dyadic.specs.Rounding.{Dyadic, finite, two_to_minus, exact, down, ext_at_most}
use Rattle.dyadic.specs.Fraction.{sum_of}
use Rattle.dyadic.specs.Views.{dyadic_of}
use Rattle.ival.proofs.Facts.{number_on_grid}
use Rattle.cover_rule.proofs.Sides.{small_side}
use Rattle.cover_rule.proofs.small.has_small_side.Goals as goal

pub returns : goal.returns
returns c =
    let l = dyadic_of c.args.range.low in let h = dyadic_of c.args.range.high in
    c.at_most.ensures ∙ ap (ext_at_most (finite h)) (c.add_down.ensures ∙ ap (λ (m : Dyadic). down (sum_of (exact l) (exact m))) c.two_to_minus.ensures) ∙ small_side h l (two_to_minus c.args.bits) (number_on_grid c.args.range.high)
