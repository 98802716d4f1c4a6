use Rattle.std.proofs.Common.{◌<◌, ◌^◌, ◌∙◌, ◌*ℤ◌, ℤ, pos, nat_abs, ap₂, sym, subst}
use Rattle.std.proofs.lemmas.Nat.{pow_pos}
use Rattle.dyadic.specs.InUnits.{IsDownAt}
use Rattle.dyadic.specs.Signed.{by_sign}
use Rattle.dyadic.specs.Size.{units}
use Rattle.dyadic.specs.Views.{units_of, parts_units, normal_units}
use Rattle.dyadic.proofs.LongQuotients.{by_sign_units, size_of_parts}
use Rattle.dyadic.proofs.Results.{rounded_steps}
use Rattle.dyadic.proofs.divide.number_quotient.Goals as goal

pub parts_quotient-requires : goal.parts_quotient-requires
parts_quotient-requires c = let b = c.parts-else-are_long.result in size_of_parts b.negative (units b.size) (units_of c.args.b) c.parts-else-are_long.ensures c.requires

pub returns-then-are_long : goal.returns-then-are_long
returns-then-are_long c =
    let x = c.normal-x.result in
    let y = c.normal-y.result in
    let q = c.long_quotient-quotient.result in
    let r = c.round_steps.result in
    let e = c.normal-x.ensures in
    let f = c.normal-y.ensures in
    let some : 0 < nat_abs (normal_units y) = subst (λ (z : ℤ). 0 < nat_abs z) (sym f) c.requires in
    let turned = sym (by_sign_units y.mantissa (2 ^ y.shift) (normal_units x) (pow_pos y.shift)) ∙ ap₂ by_sign f e in
    subst (λ z. IsDownAt (z *ℤ pos (2 ^ 120)) (nat_abs (units_of c.args.b)) r) turned
    (subst (λ (z : ℤ). IsDownAt (by_sign y.mantissa (normal_units x) *ℤ pos (2 ^ 120)) (nat_abs z) r) f
    (rounded_steps (by_sign y.mantissa (normal_units x) *ℤ pos (2 ^ 120)) (nat_abs (normal_units y)) q.count q.shift r some c.long_quotient-quotient.ensures.within c.round_steps.ensures))

pub returns-else-are_long : goal.returns-else-are_long
returns-else-are_long c =
    let r = c.parts_quotient.result in
    subst (λ (y : ℤ). IsDownAt (by_sign y (units_of c.args.a) *ℤ pos (2 ^ 120)) (nat_abs y) r) c.parts-else-are_long.ensures
    (subst (λ (x : ℤ). IsDownAt (by_sign (parts_units c.parts-else-are_long.result) x *ℤ pos (2 ^ 120)) (nat_abs (parts_units c.parts-else-are_long.result)) r) c.parts.ensures c.parts_quotient.ensures)
