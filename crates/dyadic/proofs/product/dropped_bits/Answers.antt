use Rattle.std.proofs.Common.{◌≡◌, ◌<◌, ◌≤◌, ◌-◌, ◌*◌, ◌^◌, ℤ, max, nat_abs, arith, ap, subst, ◌∙◌}
use Rattle.std.specs.Int.{leading_zeros, w128}
use Rattle.std.proofs.lemmas.Int.{to_z-of_z}
use Rattle.dyadic.proofs.Shifts.{dropped_few, dropped_many}
use Rattle.dyadic.proofs.product.dropped_bits.Goals as goal

pub returns-clause-few : goal.returns-clause-few
returns-clause-few c =
    let n = c.unsigned_abs.result in
    let r = c.max.result in
    let low = 120 - c.args.shift in
    let same : n ≡ nat_abs c.args.product = c.unsigned_abs.ensures.value ∙ ap (λ (z : ℤ). nat_abs z) (to_z-of_z w128 c.args.product c.ranges.product) in
    let e : r ≡ max (128 - leading_zeros w128 n - 62) low = omega (arith, c.max.ensures, c.saturating_sub.ensures, c.saturating_sub-2.ensures) in
    subst (λ k. k < 2 ^ 62 * 2 ^ r) same (dropped_few n low r (omega (arith, same, c.requires)) e)

pub returns-clause-many : goal.returns-clause-many
returns-clause-many c = λ h some.
    let n = c.unsigned_abs.result in
    let r = c.max.result in
    let low = 120 - c.args.shift in
    let same : n ≡ nat_abs c.args.product = c.unsigned_abs.ensures.value ∙ ap (λ (z : ℤ). nat_abs z) (to_z-of_z w128 c.args.product c.ranges.product) in
    let e : r ≡ max (128 - leading_zeros w128 n - 62) low = omega (arith, c.max.ensures, c.saturating_sub.ensures, c.saturating_sub-2.ensures) in
    subst (λ k. 2 ^ 61 * 2 ^ r ≤ k) same (dropped_many n low r (omega (arith, same, c.requires)) e (omega (arith, h, some)))
