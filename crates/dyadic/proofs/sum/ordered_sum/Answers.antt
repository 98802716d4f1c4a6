use Rattle.std.proofs.Common.{◌≡◌, ℕ, ◌<◌, ◌≤◌, ◌-◌, ◌^◌, ◌∙◌, to_z, of_z, ℤ, pos, ◌+ℤ◌, ◌*ℤ◌, nat_abs, arith, sym, ap, ap₂, subst}
use Rattle.std.specs.Int.{w64}
use Rattle.std.specs.Int.Signed.{shr_z}
use Rattle.std.proofs.lemmas.Int.{ints}
use Rattle.dyadic.specs.Mantissa.{IsWithinStep}
use Rattle.dyadic.specs.Views.{normal_units}
use Rattle.dyadic.proofs.Mantissas.{normal_short}
use Rattle.dyadic.proofs.Sums.{word, one_sign, sum_of_same_steps, sum_of_one_sign, sum_of_two_signs, shr_few, few_of_one_sign, few_of_two_signs}
use Rattle.dyadic.proofs.sum.ordered_sum.Goals as goal

wide : (m : ℤ) → nat_abs m < 2 ^ 62 → to_z w64 (of_z w64 m) ≡ m
wide m h = word m (omega (arith, h))

lowered_few : (m : ℤ) (k : ℕ) (r : ℤ) → nat_abs m < 2 ^ 62 → r ≡ shr_z m (2 ^ k) → nat_abs r < 2 ^ 63
lowered_few m k r h e = let f = shr_few m (2 ^ k) in omega (arith, ints, ap (λ (z : ℤ). nat_abs z) e, f, h)

added : (m n p q : ℤ) → p ≡ m → q ≡ n → nat_abs (m +ℤ n) < 2 ^ 63 → to_z w64 (of_z w64 (p +ℤ q)) ≡ m +ℤ n
added m n p q e f h = ap (λ z. to_z w64 (of_z w64 z)) (ap₂ (λ (x : ℤ) (y : ℤ). x +ℤ y) e f) ∙ word (m +ℤ n) h

doubled : (m : ℤ) → nat_abs m < 2 ^ 62 → to_z w64 (of_z w64 (pos 2 *ℤ to_z w64 (of_z w64 m))) ≡ pos 2 *ℤ m
doubled m h = ap (λ z. to_z w64 (of_z w64 (pos 2 *ℤ z))) (wide m h) ∙ word (pos 2 *ℤ m) (omega (arith, ints, h))

pub returns-then-apart-eq0-clause-short : goal.returns-then-apart-eq0-clause-short
returns-then-apart-eq0-clause-short c = let a = c.args.a in normal_short a.mantissa a.shift a.normal

pub returns-then-a-b-clause-short : goal.returns-then-a-b-clause-short
returns-then-a-b-clause-short c = let a = c.args.a in normal_short a.mantissa a.shift a.normal

pub returns-else-a-b-clause-short : goal.returns-else-a-b-clause-short
returns-else-a-b-clause-short c = let a = c.args.a in let short : a.shift ≤ 181 = normal_short a.mantissa a.shift a.normal in omega (arith, short)

pub returns-then-apart-eq0-clause-within : goal.returns-then-apart-eq0-clause-within
returns-then-apart-eq0-clause-within c =
    let a = c.args.a in
    let b = c.args.b in
    let x = a.normal.few_bits in
    let y = b.normal.few_bits in
    subst (λ t. IsWithinStep (normal_units a +ℤ normal_units b) 1 t a.shift)
    (sym (added a.mantissa b.mantissa _ _ (wide a.mantissa x) (wide b.mantissa y) (omega (arith, ints, x, y))))
    (sum_of_same_steps a.mantissa b.mantissa a.shift b.shift (omega (arith, c.requires, c.if-apart-eq0.true)))

pub returns-then-a-b-clause-within : goal.returns-then-a-b-clause-within
returns-then-a-b-clause-within c =
    let a = c.args.a in
    let b = c.args.b in
    let x = a.normal.few_bits in
    let y = b.normal.few_bits in
    let signs = ap₂ one_sign (sym (wide a.mantissa x)) (sym (wide b.mantissa y)) ∙ c.if-a-b.true in
    let low = word c.lowered.result (lowered_few b.mantissa (a.shift - b.shift) _ y (c.lowered.ensures ∙ ap (λ z. shr_z z (2 ^ (a.shift - b.shift))) (wide b.mantissa y))) ∙ c.lowered.ensures ∙ ap (λ z. shr_z z (2 ^ (a.shift - b.shift))) (wide b.mantissa y) in
    subst (λ t. IsWithinStep (normal_units a +ℤ normal_units b) 1 t a.shift)
    (sym (added a.mantissa (shr_z b.mantissa (2 ^ (a.shift - b.shift))) _ _ (wide a.mantissa x) low (few_of_one_sign a.mantissa b.mantissa (2 ^ (a.shift - b.shift)) x y)))
    (sum_of_one_sign a.mantissa b.mantissa a.shift b.shift a.normal (omega (arith, c.requires, c.if-apart-eq0.false)) signs)

pub returns-else-a-b-clause-few : goal.returns-else-a-b-clause-few
returns-else-a-b-clause-few c =
    let a = c.args.a in
    let b = c.args.b in
    let x = a.normal.few_bits in
    let y = b.normal.few_bits in
    let k = a.shift - b.shift - 1 in
    let signs = ap₂ one_sign (sym (wide a.mantissa x)) (sym (wide b.mantissa y)) ∙ c.if-a-b.false in
    let low = word c.lowered-else-a-b.result (lowered_few b.mantissa k _ y (c.lowered-else-a-b.ensures ∙ ap (λ z. shr_z z (2 ^ k)) (wide b.mantissa y))) ∙ c.lowered-else-a-b.ensures ∙ ap (λ z. shr_z z (2 ^ k)) (wide b.mantissa y) in
    let few = few_of_two_signs a.mantissa b.mantissa (2 ^ k) x y signs in
    subst (λ z. nat_abs z < 2 ^ 63) (sym (added (pos 2 *ℤ a.mantissa) (shr_z b.mantissa (2 ^ k)) _ _ (doubled a.mantissa x) low few)) few

pub returns-else-a-b-clause-within : goal.returns-else-a-b-clause-within
returns-else-a-b-clause-within c =
    let a = c.args.a in
    let b = c.args.b in
    let x = a.normal.few_bits in
    let y = b.normal.few_bits in
    let k = a.shift - b.shift - 1 in
    let signs = ap₂ one_sign (sym (wide a.mantissa x)) (sym (wide b.mantissa y)) ∙ c.if-a-b.false in
    let low = word c.lowered-else-a-b.result (lowered_few b.mantissa k _ y (c.lowered-else-a-b.ensures ∙ ap (λ z. shr_z z (2 ^ k)) (wide b.mantissa y))) ∙ c.lowered-else-a-b.ensures ∙ ap (λ z. shr_z z (2 ^ k)) (wide b.mantissa y) in
    let few = few_of_two_signs a.mantissa b.mantissa (2 ^ k) x y signs in
    subst (λ t. IsWithinStep (normal_units a +ℤ normal_units b) 1 t (a.shift - 1))
    (sym (added (pos 2 *ℤ a.mantissa) (shr_z b.mantissa (2 ^ k)) _ _ (doubled a.mantissa x) low few))
    (sum_of_two_signs a.mantissa b.mantissa a.shift b.shift a.normal b.normal (omega (arith, c.requires, c.if-apart-eq0.false)))
