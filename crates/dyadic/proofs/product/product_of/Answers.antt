use Rattle.std.proofs.Common.{to_z, of_z, ◌≡◌, ◌<◌, ◌≤◌, ◌^◌, ◌+◌, ◌-◌, ◌*◌, ◌∙◌, ◌*ℤ◌, ℤ, pos, nat_abs, arith, ap, ap₂, sym, subst, lit<}
use Rattle.std.proofs.Math.Nat.{mul-le-mul}
use Rattle.std.specs.Int.{w64, w128}
use Rattle.std.specs.Int.Signed.{shr_z}
use Rattle.std.proofs.lemmas.Int.{to_z-of_z, unsigned_abs-mul}
use Rattle.std.proofs.lemmas.Nat.{pow-add}
use Rattle.dyadic.specs.Mantissa.{IsWithinStep}
use Rattle.dyadic.specs.Views.{normal_units}
use Rattle.dyadic.proofs.Mantissas.{normal_short}
use Rattle.dyadic.proofs.StepBounds.{within_shifted, units_product}
use Rattle.dyadic.proofs.Sums.{word}
use Rattle.dyadic.proofs.product.product_of.Goals as goal

multiplied : (m n p : ℤ) → nat_abs m < 2 ^ 62 → nat_abs n < 2 ^ 62 → p ≡ to_z w64 (of_z w64 m) *ℤ to_z w64 (of_z w64 n) → p ≡ m *ℤ n
multiplied m n p h k e = e ∙ ap₂ (λ (x : ℤ) (y : ℤ). x *ℤ y) (word m (omega (arith, h))) (word n (omega (arith, k)))

pub overflow_add-shift : goal.overflow_add-shift
overflow_add-shift c =
    let a = c.args.a in
    let b = c.args.b in
    let x : a.shift ≤ 181 = normal_short a.mantissa a.shift a.normal in
    let y : b.shift ≤ 181 = normal_short b.mantissa b.shift b.normal in
    record { fits = omega (arith, x, y) }

pub short_product-requires-clause-short : goal.short_product-requires-clause-short
short_product-requires-clause-short c =
    let a = c.args.a in
    let b = c.args.b in
    let x : a.shift ≤ 181 = normal_short a.mantissa a.shift a.normal in
    let y : b.shift ≤ 181 = normal_short b.mantissa b.shift b.normal in
    omega (arith, x, y)

pub returns-then-shift-ge59-clause-short : goal.returns-then-shift-ge59-clause-short
returns-then-shift-ge59-clause-short c =
    let a = c.args.a in
    let b = c.args.b in
    let x : a.shift ≤ 181 = normal_short a.mantissa a.shift a.normal in
    let y : b.shift ≤ 181 = normal_short b.mantissa b.shift b.normal in
    omega (arith, x, y)

pub returns-then-shift-ge59-clause-within : goal.returns-then-shift-ge59-clause-within
returns-then-shift-ge59-clause-within c =
    let a = c.args.a in
    let b = c.args.b in
    let p = c.times-product.result in
    let is = multiplied a.mantissa b.mantissa p a.normal.few_bits b.normal.few_bits c.times-product.ensures.value in
    let i = a.shift + b.shift in
    let s = i - 59 in
    let e = word c.lowered.result c.lowered.ensures.few ∙ c.lowered.ensures.value ∙ ap (λ z. shr_z z (2 ^ 61)) (to_z-of_z w128 p (record { sfits = c.times-product.type_inv }) ∙ is) in
    let split : 2 ^ s * 2 ^ 120 ≡ 2 ^ 61 * 2 ^ i = sym (pow-add 2 s 120) ∙ ap (λ x. 2 ^ x) (let f : s + 120 ≡ 61 + i = omega (arith, c.if-shift-ge59.true) in f) ∙ pow-add 2 61 i in
    let many : 2 ^ 61 * 2 ^ 61 ≤ nat_abs a.mantissa * nat_abs b.mantissa = mul-le-mul (a.normal.many_bits c.if-a-gt0.true) (b.normal.many_bits c.if-b-gt0.true) in
    subst (λ t. IsWithinStep (normal_units a *ℤ normal_units b) (2 ^ 120) t s) (sym e)
    (subst (λ z. IsWithinStep z (2 ^ 120) (shr_z (a.mantissa *ℤ b.mantissa) (2 ^ 61)) s) (units_product a.mantissa b.mantissa a.shift b.shift)
    (within_shifted (a.mantissa *ℤ b.mantissa) 61 i s (2 ^ 120) (lit< tt) split (λ _ _. omega (arith, many, unsigned_abs-mul a.mantissa b.mantissa))))

pub returns-else-a-gt0-clause-within : goal.returns-else-a-gt0-clause-within
returns-else-a-gt0-clause-within c =
    let a = c.args.a in
    let b = c.args.b in
    let t = c.short_product.result in
    let p = c.times-product.result in
    let is = multiplied a.mantissa b.mantissa p a.normal.few_bits b.normal.few_bits c.times-product.ensures.value in
    let e = ap (λ z. z *ℤ pos (2 ^ (a.shift + b.shift))) (to_z-of_z w128 p (record { sfits = c.times-product.type_inv }) ∙ is) ∙ units_product a.mantissa b.mantissa a.shift b.shift in
    subst (λ z. IsWithinStep z (2 ^ 120) t.count t.shift) e c.short_product.ensures.within
