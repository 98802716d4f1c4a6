use Rattle.std.proofs.Common.{◌≡◌, ◌-◌, ◌*◌, ◌^◌, ◌∙◌, arith, ap, pos}
use Rattle.dyadic.proofs.Numbers.{one_spelling}
use Rattle.dyadic.proofs.power.two_to_minus.Goals as goal

pub invariant_of-size : goal.invariant_of-size
invariant_of-size c = record { spelled = one_spelling _ (omega arith) }

pub returns : goal.returns
returns c =
    let e : 1 * 2 ^ (120 - c.args.bits) ≡ 2 ^ (120 - c.args.bits) = omega arith in
    ap (λ z. record { units = z }) c.signed.ensures ∙ ap (λ m. record { units = pos m }) e
