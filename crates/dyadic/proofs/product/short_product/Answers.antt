use Rattle.std.proofs.Common.{◌≡◌, ◌^◌, ◌+◌, ◌-◌, ◌*◌, ◌∙◌, ◌*ℤ◌, ◌≤◌, pos, nat_abs, arith, ap, sym, subst, lit<}
use Rattle.std.specs.Int.{w128}
use Rattle.std.specs.Int.Signed.{shr_z}
use Rattle.std.proofs.lemmas.Int.{to_z-of_z}
use Rattle.std.proofs.lemmas.Nat.{pow-add}
use Rattle.dyadic.specs.Mantissa.{IsWithinStep}
use Rattle.dyadic.proofs.StepBounds.{within_shifted}
use Rattle.dyadic.proofs.Sums.{word}
use Rattle.dyadic.proofs.product.short_product.Goals as goal

pub returns-clause-within : goal.returns-clause-within
returns-clause-within c =
    let m = c.args.product in
    let i = c.args.shift in
    let k = c.dropped_bits-dropped.result in
    let s = i + k - 120 in
    let d = c.dropped_bits-dropped.ensures in
    let e = word c.lowered.result c.lowered.ensures.few ∙ c.lowered.ensures.value ∙ ap (λ z. shr_z z (2 ^ k)) (to_z-of_z w128 m c.ranges.product) in
    let split : 2 ^ s * 2 ^ 120 ≡ 2 ^ k * 2 ^ i = sym (pow-add 2 s 120) ∙ ap (λ x. 2 ^ x) (let f : s + 120 ≡ k + i = omega (arith, d.units) in f) ∙ pow-add 2 k i in
    subst (λ t. IsWithinStep (m *ℤ pos (2 ^ i)) (2 ^ 120) t s) (sym e)
    (within_shifted m k i s (2 ^ 120) (lit< tt) split (λ some more. subst (λ z. 2 ^ 61 * 2 ^ k ≤ nat_abs z) (to_z-of_z w128 m c.ranges.product) (d.many (omega (arith, some)) more)))
