use Rattle.std.proofs.Common.{to_z, of_z, ◌≤◌, ◌+◌, ◌-◌, ◌*◌, ◌^◌, ◌+ℤ◌, ◌*ℤ◌, ◌≤ℤ◌, ◌<ℤ◌, ℤ, pos, nat_abs, arith, sym, subst}
use Rattle.std.specs.Int.{w64}
use Rattle.dyadic.specs.Mantissa.{IsWithinStep}
use Rattle.dyadic.specs.Signed.{by_sign}
use Rattle.dyadic.specs.Views.{normal_units}
use Rattle.dyadic.proofs.LongQuotients.{quotient_within, by_sign_times, by_sign_size}
use Rattle.dyadic.proofs.Mantissas.{normal_short}
use Rattle.dyadic.proofs.Sums.{word}
use Rattle.dyadic.proofs.Unique.{size_in_steps}
use Rattle.dyadic.proofs.divide.long_quotient.Goals as goal

pub overflow_add-result : goal.overflow_add-result
overflow_add-result c = let a = c.args.a in let x : a.shift ≤ 181 = normal_short a.mantissa a.shift a.normal in record { fits = omega (arith, x) }

pub returns-clause-short : goal.returns-clause-short
returns-clause-short c = let a = c.args.a in let x : a.shift ≤ 181 = normal_short a.mantissa a.shift a.normal in omega (arith, x)

pub returns-clause-within : goal.returns-clause-within
returns-clause-within c =
    let a = c.args.a in
    let b = c.args.b in
    let m = a.mantissa in
    let n = b.mantissa in
    let i = a.shift in
    let j = b.shift in
    let s = i + 58 - j in
    let t = c.quotient_of.result in
    let e = c.quotient_of.ensures in
    let mw = word m (let h = a.normal.few_bits in omega (arith, h)) in
    let nw = word n (let h = b.normal.few_bits in omega (arith, h)) in
    let z = by_sign n m in
    let low = subst (λ (x : ℤ). (t *ℤ pos (nat_abs x)) ≤ℤ (by_sign x m *ℤ pos (2 ^ 62))) nw (subst (λ (y : ℤ). (t *ℤ pos (nat_abs (to_z w64 (of_z w64 n)))) ≤ℤ (by_sign (to_z w64 (of_z w64 n)) y *ℤ pos (2 ^ 62))) mw e.at_least) in
    let high = subst (λ (x : ℤ). (by_sign x m *ℤ pos (2 ^ 62)) <ℤ ((t +ℤ pos 1) *ℤ pos (nat_abs x))) nw (subst (λ (y : ℤ). (by_sign (to_z w64 (of_z w64 n)) y *ℤ pos (2 ^ 62)) <ℤ ((t +ℤ pos 1) *ℤ pos (nat_abs (to_z w64 (of_z w64 n))))) mw e.below) in
    subst (λ u. IsWithinStep (by_sign n (normal_units a) *ℤ pos (2 ^ 120)) (nat_abs (normal_units b)) u s) (sym (word t e.few))
    (subst (λ d. IsWithinStep (by_sign n (normal_units a) *ℤ pos (2 ^ 120)) d t s) (sym (size_in_steps n j))
    (subst (λ w. IsWithinStep (w *ℤ pos (2 ^ 120)) (nat_abs n * 2 ^ j) t s) (sym (by_sign_times n m (2 ^ i)))
    (quotient_within z t (nat_abs n) i j s (let h = b.normal.many_bits c.requires.second in omega (arith, h)) (omega (arith, c.requires.coarse)) low high
    (let h = a.normal.many_bits c.requires.first in omega (arith, by_sign_size n m, h)) b.normal.few_bits)))
