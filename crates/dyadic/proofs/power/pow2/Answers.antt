use Rattle.std.proofs.Common.{ap, ◌∙◌, pos, ◌+ℤ◌}
use Rattle.std.proofs.lemmas.Int.{to_z-of_z}
use mir.Syntax.{w32}
use Rattle.dyadic.proofs.Numbers.{one_spelling, power_view}
use Rattle.dyadic.proofs.power.pow2.Goals as goal

pub invariant_of-size : goal.invariant_of-size
invariant_of-size c = record { spelled = one_spelling c.power_shift-shift.result c.power_shift-shift.ensures.short }

pub returns : goal.returns
returns c =
    ap (λ z. record { units = z }) c.signed.ensures
    ∙ power_view c.args.exponent c.power_shift-shift.result
    (c.power_shift-shift.ensures.value ∙ ap (λ z. z +ℤ pos 120) (to_z-of_z w32 c.args.exponent c.ranges.exponent))
