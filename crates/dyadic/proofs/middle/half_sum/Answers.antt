use Rattle.std.proofs.Common.{◌≡◌, ◌-◌, ◌+ℤ◌, arith, sym, subst}
use Rattle.dyadic.specs.Mantissa.{IsWithinStep}
use Rattle.dyadic.specs.Views.{normal_units}
use Rattle.dyadic.proofs.Middles.{half_steps, half_units}
use Rattle.dyadic.proofs.Shifts.{shifted}
use Rattle.dyadic.proofs.Sums.{word, fits_word}
use Rattle.dyadic.proofs.middle.half_sum.Goals as goal

pub returns-then-sum-gt0-clause-within : goal.returns-then-sum-gt0-clause-within
returns-then-sum-gt0-clause-within c =
    let sum = c.sum_of-sum.result in
    let e = c.sum_of-sum.ensures in
    subst (λ t. IsWithinStep (normal_units c.args.a +ℤ normal_units c.args.b) 2 t (sum.shift - 1)) (sym (word sum.count e.few))
    (half_steps (normal_units c.args.a +ℤ normal_units c.args.b) sum.count sum.shift c.if-sum-gt0.true e.within)

pub returns-else-sum-gt0-clause-within : goal.returns-else-sum-gt0-clause-within
returns-else-sum-gt0-clause-within c =
    let sum = c.sum_of-sum.result in
    let e = c.sum_of-sum.ensures in
    let n = normal_units c.args.a +ℤ normal_units c.args.b in
    let none : sum.shift ≡ 0 = omega (arith, c.if-sum-gt0.false) in
    subst (λ t. IsWithinStep n 2 t 0) (sym (shifted sum.count 2 (fits_word sum.count e.few)))
    (half_units n sum.count (subst (λ s. IsWithinStep n 1 sum.count s) none e.within))
