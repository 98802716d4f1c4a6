use Rattle.std.proofs.Common.{◌≡◌, ◌+◌, ◌-◌, ℕ, ℤ, Bool, sym, ◌∙◌, ap₂, arith, neg_ℤ, ◌+ℤ◌, mul-pos}
use Rattle.std.proofs.lemmas.Nat.{pow_pos}
use Rattle.dyadic.specs.Size.{units}
use Rattle.dyadic.specs.Signed.{signed_of}
use Rattle.ival.specs.WideViews.{wide_value}
use Rattle.ival.proofs.Wides.{both_plus, both_minus, no_minus, plus_length, minus_length, mixed_length, upright_parts}
use Rattle.ival.proofs.side_length.length_of.Goals as goal

pub wide_difference-requires : goal.wide_difference-requires
wide_difference-requires c =
    let p = c.parts-lower.result in
    let q = c.parts-upper.result in
    let o = upright_parts c.args.range p q c.parts-lower.ensures c.parts-upper.ensures in
    let k = both_minus (units p.size) (units q.size) (rw (c.in-true-true.is-0, c.in-true-true.is-1) at o) in
    omega (arith, k, c.wide_of-low.ensures.value, c.wide_of-high.ensures.value)

pub unreachable-requires : goal.unreachable-requires
unreachable-requires c =
    let p = c.parts-lower.result in
    let q = c.parts-upper.result in
    let o = upright_parts c.args.range p q c.parts-lower.ensures c.parts-upper.ensures in
    no_minus (units p.size) (units q.size) (mul-pos (q.one_zero c.in-false-true.is-1) (pow_pos q.size.shift)) (rw (c.in-false-true.is-0, c.in-false-true.is-1) at o)

pub wide_difference-requires-in-false-false : goal.wide_difference-requires-in-false-false
wide_difference-requires-in-false-false c =
    let p = c.parts-lower.result in
    let q = c.parts-upper.result in
    let o = upright_parts c.args.range p q c.parts-lower.ensures c.parts-upper.ensures in
    let k = both_plus (units p.size) (units q.size) (rw (c.in-false-false.is-0, c.in-false-false.is-1) at o) in
    omega (arith, k, c.wide_of-low.ensures.value, c.wide_of-high.ensures.value)

pub returns-in-true-true : goal.returns-in-true-true
returns-in-true-true c =
    let p = c.parts-lower.result in
    let q = c.parts-upper.result in
    let o = upright_parts c.args.range p q c.parts-lower.ensures c.parts-upper.ensures in
    let k = both_minus (units p.size) (units q.size) (rw (c.in-true-true.is-0, c.in-true-true.is-1) at o) in
    let e : wide_value c.wide_difference.result ≡ units p.size - units q.size = c.wide_difference.ensures ∙ ap₂ (λ (a : ℕ) (b : ℕ). a - b) c.wide_of-low.ensures.value c.wide_of-high.ensures.value in
    minus_length (units p.size) (units q.size) (wide_value c.wide_difference.result) k e ∙
    ap₂ (λ (a : Bool) (b : Bool). signed_of a (units q.size) +ℤ neg_ℤ (signed_of b (units p.size))) (sym c.in-true-true.is-1) (sym c.in-true-true.is-0) ∙
    ap₂ (λ (x : ℤ) (y : ℤ). x +ℤ neg_ℤ y) c.parts-upper.ensures c.parts-lower.ensures

pub returns-in-false-false : goal.returns-in-false-false
returns-in-false-false c =
    let p = c.parts-lower.result in
    let q = c.parts-upper.result in
    let o = upright_parts c.args.range p q c.parts-lower.ensures c.parts-upper.ensures in
    let k = both_plus (units p.size) (units q.size) (rw (c.in-false-false.is-0, c.in-false-false.is-1) at o) in
    let e : wide_value c.wide_difference-in-false-false.result ≡ units q.size - units p.size = c.wide_difference-in-false-false.ensures ∙ ap₂ (λ (a : ℕ) (b : ℕ). a - b) c.wide_of-high.ensures.value c.wide_of-low.ensures.value in
    plus_length (units p.size) (units q.size) (wide_value c.wide_difference-in-false-false.result) k e ∙
    ap₂ (λ (a : Bool) (b : Bool). signed_of a (units q.size) +ℤ neg_ℤ (signed_of b (units p.size))) (sym c.in-false-false.is-1) (sym c.in-false-false.is-0) ∙
    ap₂ (λ (x : ℤ) (y : ℤ). x +ℤ neg_ℤ y) c.parts-upper.ensures c.parts-lower.ensures

pub returns-in-true-false : goal.returns-in-true-false
returns-in-true-false c =
    let p = c.parts-lower.result in
    let q = c.parts-upper.result in
    let e : wide_value c.wide_sum.result ≡ units p.size + units q.size = c.wide_sum.ensures ∙ ap₂ (λ (a : ℕ) (b : ℕ). a + b) c.wide_of-low.ensures.value c.wide_of-high.ensures.value in
    mixed_length (units p.size) (units q.size) (wide_value c.wide_sum.result) e ∙
    ap₂ (λ (a : Bool) (b : Bool). signed_of a (units q.size) +ℤ neg_ℤ (signed_of b (units p.size))) (sym c.in-true-false.is-1) (sym c.in-true-false.is-0) ∙
    ap₂ (λ (x : ℤ) (y : ℤ). x +ℤ neg_ℤ y) c.parts-upper.ensures c.parts-lower.ensures
