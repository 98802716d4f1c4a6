use Rattle.std.proofs.Common.{◌^◌, ◌∙◌, ◌*ℤ◌, pos, nat_abs, arith, sym, subst, ap}
use Rattle.dyadic.specs.InUnits.{IsDownAt}
use Rattle.dyadic.specs.Mantissa.{IsNormal}
use Rattle.dyadic.specs.Signed.{IsFloor}
use Rattle.dyadic.proofs.Ranges.{in_range_low}
use Rattle.dyadic.proofs.Sums.{word}
use Rattle.dyadic.proofs.WithinSteps.{down_of_floor}
use Rattle.dyadic.proofs.steps.round_steps.Goals as goal

pub number-requires : goal.number-requires
number-requires c =
    let t = c.settled-steps.result in
    let e = c.settled-steps.ensures in
    subst (λ z. IsNormal z t.shift) (sym (word t.count (let h = e.few in omega (arith, h))))
    (record { few_bits = e.few; many_bits = e.many; in_range = in_range_low (nat_abs t.count) t.shift (let h = e.few in omega (arith, h)) c.if-steps-le180.true })

pub returns-then-steps-le180 : goal.returns-then-steps-le180
returns-then-steps-le180 c =
    let t = c.settled-steps.result in
    let e = c.settled-steps.ensures in
    let same = c.number.ensures ∙ ap (λ z. z *ℤ pos (2 ^ t.shift)) (word t.count (let h = e.few in omega (arith, h))) in
    subst (IsFloor (c.args.steps.count *ℤ pos (2 ^ c.args.steps.shift)) 1) (sym same)
    (subst (λ z. IsFloor (z *ℤ pos (2 ^ c.args.steps.shift)) 1 (t.count *ℤ pos (2 ^ t.shift))) (word c.args.steps.count c.requires.few) e.floor)

pub returns-else-steps-le180 : goal.returns-else-steps-le180
returns-else-steps-le180 c =
    let t = c.settled-steps.result in
    let e = c.settled-steps.ensures in
    down_of_floor (c.args.steps.count *ℤ pos (2 ^ c.args.steps.shift)) 1 (t.count *ℤ pos (2 ^ t.shift)) c.bounded.result
    (subst (λ z. IsFloor (z *ℤ pos (2 ^ c.args.steps.shift)) 1 (t.count *ℤ pos (2 ^ t.shift))) (word c.args.steps.count c.requires.few) e.floor)
    (subst (λ z. IsDownAt (z *ℤ pos (2 ^ t.shift)) 1 c.bounded.result) (word t.count (let h = e.few in omega (arith, h))) c.bounded.ensures)
