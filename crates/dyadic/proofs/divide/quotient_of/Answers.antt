use Rattle.std.proofs.Common.{◌≡◌, ℕ, ◌<◌, ◌≤◌, ◌+◌, ◌*◌, ◌^◌, ◌∙◌, ◌-ℤ◌, ℤ, pos, neg_ℤ, nat_abs, to_z, of_z, false, true≢false, arith, ap, ap₂, sym}
use Rattle.std.specs.Int.{w64}
use Rattle.std.proofs.lemmas.Int.{ints}
use Rattle.dyadic.proofs.LongQuotients.{two_signs_floor}
use Rattle.dyadic.proofs.Sums.{word, one_sign}
use Rattle.dyadic.proofs.divide.quotient_of.Goals as goal

opposite : (q : ℕ) → q + 1 < 2 ^ 63 → to_z w64 (of_z w64 (pos 0 -ℤ to_z w64 q)) ≡ neg_ℤ (pos q)
opposite q h = omega (arith, ints, h)

opposite_less : (q : ℕ) → q + 1 < 2 ^ 63 → to_z w64 (of_z w64 (to_z w64 (of_z w64 (pos 0 -ℤ to_z w64 q)) -ℤ pos 1)) ≡ neg_ℤ (pos (q + 1))
opposite_less q h = omega (arith, ints, h)

size_of : (m : ℤ) (s : ℕ) → nat_abs m < 2 ^ 62 → s ≡ nat_abs (to_z w64 (of_z w64 m)) → s ≡ nat_abs m
size_of m s h e = e ∙ ap (λ (z : ℤ). nat_abs z) (word m (omega (arith, h)))

signs : (m n : ℤ) → nat_abs m < 2 ^ 62 → nat_abs n < 2 ^ 62 → one_sign (to_z w64 (of_z w64 m)) (to_z w64 (of_z w64 n)) ≡ false → one_sign m n ≡ false
signs m n h k e = ap₂ one_sign (sym (word m (omega (arith, h)))) (sym (word n (omega (arith, k)))) ∙ e

pub returns-then-is_whole-clause-below : goal.returns-then-is_whole-clause-below
returns-then-is_whole-clause-below c =
    let m = c.args.m in
    let n = c.args.n in
    let q = c.size_quotient-quotient.result in
    let e = c.size_quotient-quotient.ensures in
    let s = size_of m c.unsigned_abs-size.result c.requires.first c.unsigned_abs-size.ensures.value in
    let d = size_of n c.unsigned_abs-divisor.result c.requires.few c.unsigned_abs-divisor.ensures.value in
    let exact = c.is_whole.ensures.0 c.if-is_whole.true in
    let floor = two_signs_floor m n _ q (signs m n c.requires.first c.requires.few c.if-m-n.false) (opposite q e.few)
    (omega (arith, ap (λ k. k * 2 ^ 62) s, ap (λ k. q * k) d, exact))
    (omega (arith, ap (λ k. k * 2 ^ 62) s, ap (λ k. q * k) d, exact, c.requires.many)) in
    floor.1

some_rest : (x y : ℕ) → x ≤ y → (x ≡ y → ⊥) → x < y
some_rest x y h other = omega (arith, h, other)

pub returns-else-is_whole-clause-at_least : goal.returns-else-is_whole-clause-at_least
returns-else-is_whole-clause-at_least c =
    let m = c.args.m in
    let n = c.args.n in
    let q = c.size_quotient-quotient.result in
    let e = c.size_quotient-quotient.ensures in
    let s = size_of m c.unsigned_abs-size.result c.requires.first c.unsigned_abs-size.ensures.value in
    let d = size_of n c.unsigned_abs-divisor.result c.requires.few c.unsigned_abs-divisor.ensures.value in
    let rest : q * c.unsigned_abs-divisor.result < c.unsigned_abs-size.result * 2 ^ 62 =
    some_rest (q * c.unsigned_abs-divisor.result) (c.unsigned_abs-size.result * 2 ^ 62) e.at_least (λ h. true≢false (sym (c.is_whole.ensures.1 h) ∙ c.if-is_whole.false)) in
    let floor = two_signs_floor m n _ (q + 1) (signs m n c.requires.first c.requires.few c.if-m-n.false) (opposite_less q e.few)
    (omega (arith, ap (λ k. k * 2 ^ 62) s, ap (λ k. q * k) d, d, e.below))
    (omega (arith, ap (λ k. k * 2 ^ 62) s, ap (λ k. q * k) d, d, rest)) in
    floor.0

pub returns-else-is_whole-clause-below : goal.returns-else-is_whole-clause-below
returns-else-is_whole-clause-below c =
    let m = c.args.m in
    let n = c.args.n in
    let q = c.size_quotient-quotient.result in
    let e = c.size_quotient-quotient.ensures in
    let s = size_of m c.unsigned_abs-size.result c.requires.first c.unsigned_abs-size.ensures.value in
    let d = size_of n c.unsigned_abs-divisor.result c.requires.few c.unsigned_abs-divisor.ensures.value in
    let rest : q * c.unsigned_abs-divisor.result < c.unsigned_abs-size.result * 2 ^ 62 =
    some_rest (q * c.unsigned_abs-divisor.result) (c.unsigned_abs-size.result * 2 ^ 62) e.at_least (λ h. true≢false (sym (c.is_whole.ensures.1 h) ∙ c.if-is_whole.false)) in
    let floor = two_signs_floor m n _ (q + 1) (signs m n c.requires.first c.requires.few c.if-m-n.false) (opposite_less q e.few)
    (omega (arith, ap (λ k. k * 2 ^ 62) s, ap (λ k. q * k) d, d, e.below))
    (omega (arith, ap (λ k. k * 2 ^ 62) s, ap (λ k. q * k) d, d, rest)) in
    floor.1
