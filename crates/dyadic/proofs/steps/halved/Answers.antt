use Rattle.std.proofs.Common.{to_z, ◌≡◌, ℕ, ◌+◌, ◌*◌, ◌^◌, ◌≤◌, ◌∙◌, ◌*ℤ◌, ℤ, pos, neg_ℤ, nat_abs, true, arith, sym, subst, ap, lit<}
use Rattle.std.specs.Int.{w64}
use Rattle.std.specs.Int.Signed.{shr_z}
use Rattle.std.proofs.lemmas.Nat.{pow-add}
use Rattle.dyadic.specs.Signed.{IsFloor}
use Rattle.dyadic.proofs.Shifts.{shifted}
use Rattle.dyadic.proofs.WithinSteps.{floor_within}
use Rattle.dyadic.proofs.StepBounds.{within_shifted}
use Rattle.dyadic.proofs.Products.{signed_by}
use Rattle.dyadic.proofs.steps.halved.Goals as goal

halved_floor : (m : ℤ) (s : ℕ) → 2 ^ 62 ≤ nat_abs m → IsFloor (m *ℤ pos (2 ^ s)) 1 (shr_z m 2 *ℤ pos (2 ^ (s + 1)))
halved_floor m s many = floor_within (m *ℤ pos (2 ^ s)) 1 (shr_z m 2) (s + 1) (lit< tt)
    (within_shifted m 1 s (s + 1) 1 (lit< tt) (omega (arith, pow-add 2 s 1)) (λ _ _. omega (arith, many)))

pub returns-else-half-clause-floor : goal.returns-else-half-clause-floor
returns-else-half-clause-floor c =
    let m = c.args.count in
    let e = shifted m 2 (let h = c.ranges.count in h.sfits) in
    subst (λ z. IsFloor (m *ℤ pos (2 ^ c.args.shift)) 1 (z *ℤ pos (2 ^ (c.args.shift + 1)))) (sym e) (halved_floor m c.args.shift c.requires.many)

pub returns-then-half-clause-floor : goal.returns-then-half-clause-floor
returns-then-half-clause-floor c =
    let m = c.args.count in
    let s = c.args.shift in
    let e = sym (shifted m 2 (let h = c.ranges.count in h.sfits)) ∙ ap (to_z w64) c.if-half.true in
    let more : 2 ^ 62 * 2 ^ (s + 1) ≡ 2 ^ 61 * 2 ^ (s + 2) = omega (arith, pow-add 2 s 1, pow-add 2 s 2) in
    subst (IsFloor (m *ℤ pos (2 ^ s)) 1)
    (ap (λ z. z *ℤ pos (2 ^ (s + 1))) e ∙ sym (signed_by true (2 ^ 62) (2 ^ (s + 1))) ∙ ap (λ n. neg_ℤ (pos n)) more)
    (halved_floor m s c.requires.many)
