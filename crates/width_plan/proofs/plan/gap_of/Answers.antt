use Rattle.std.proofs.Common.{◌∙◌, ap, ap₂}
use Rattle.dyadic.specs.Fraction.{sum_of}
use Rattle.dyadic.specs.Rounding.{Dyadic, exact, down}
use Rattle.dyadic.specs.End.{negated_dyadic}
use Rattle.dyadic.specs.Views.{ext_of}
use Rattle.width_plan.proofs.Gap.{gap_is}
use Rattle.width_plan.proofs.plan.gap_of.Goals as goal

pub returns : goal.returns
returns c =
    gap_is c.args.delta_bits c.args.margin_bits c.requires.order c.requires.few (ext_of c.add_down.result)
    (c.add_down.ensures ∙ ap₂ (λ (x y : Dyadic). down (sum_of (exact x) (exact y))) c.two_to_minus.ensures (c.neg.ensures ∙ ap negated_dyadic c.two_to_minus-margin.ensures))
