use Rattle.std.proofs.Common.{◌<◌, ◌^◌, ◌∙◌, ◌*ℤ◌, pos, arith, ap, ap₂}
use Rattle.std.specs.Int.{w64}
use Rattle.std.specs.Int.Signed.{le_z}
use Rattle.std.proofs.lemmas.Int.{to_z-of_z}
use Rattle.std.proofs.lemmas.Nat.{pow_pos}
use Rattle.dyadic.specs.Views.{dyadic_of, units_of}
use Rattle.dyadic.specs.Mantissa.{mantissa}
use Rattle.dyadic.proofs.Mantissas.{smaller}
use Rattle.dyadic.proofs.OrderTests.{test_of_units, same_steps_test, greater_test, lesser_test}
use Rattle.dyadic.proofs.compare.number_at_most.Goals as goal

pub returns-then-a-b : goal.returns-then-a-b
returns-then-a-b c =
    let a = c.args.a in
    let b = c.args.b in
    let m = mantissa a.high a.low in
    let n = mantissa b.high b.low in
    let x = to_z-of_z w64 c.mantissa.result (record { sfits = c.mantissa.type_inv }) ∙ c.mantissa.ensures in
    let y = to_z-of_z w64 c.mantissa-then-a-b.result (record { sfits = c.mantissa-then-a-b.type_inv }) ∙ c.mantissa-then-a-b.ensures in
    test_of_units (dyadic_of a) (dyadic_of b) _
    (ap₂ le_z x y ∙ same_steps_test m n (2 ^ a.shift) (pow_pos a.shift) ∙ ap (λ k. le_z (m *ℤ pos (2 ^ a.shift)) (n *ℤ pos (2 ^ k))) c.if-a-b.true)

pub returns-then-a-b-2 : goal.returns-then-a-b-2
returns-then-a-b-2 c =
    let a = c.args.a in
    let b = c.args.b in
    test_of_units (dyadic_of a) (dyadic_of b) _
    (greater_test (units_of a) (units_of b) c.is_negative.result (smaller _ _ a.shift b.shift a.normal b.normal c.if-a-b-2.true) c.is_negative.ensures)

pub returns-else-a-b-2 : goal.returns-else-a-b-2
returns-else-a-b-2 c =
    let a = c.args.a in
    let b = c.args.b in
    let less : b.shift < a.shift = omega (arith, c.if-a-b.false, c.if-a-b-2.false) in
    test_of_units (dyadic_of a) (dyadic_of b) _
    (lesser_test (units_of a) (units_of b) c.is_negative-else-a-b-2.result (smaller _ _ b.shift a.shift b.normal a.normal less) c.is_negative-else-a-b-2.ensures)
