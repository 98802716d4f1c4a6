use Rattle.std.proofs.lemmas.Grind.{common_steps}
use Rattle.std.proofs.Common.{sym, subst, neg_ℤ, pos, arith}
use Rattle.dyadic.specs.Signed.{IsFloor, signed_of}
use Rattle.dyadic.specs.Views.{units_of}
use Rattle.dyadic.proofs.Signs.{floor_plus, floor_minus}
use Rattle.dyadic.proofs.bracket.down.Goals as goal

pub returns-else-negative : goal.returns-else-negative
returns-else-negative c = λ n d p t.
    subst (λ b. IsFloor (signed_of b n) d (units_of c.signed-else-negative.result)) (sym c.if-negative.false)
    (subst (λ z. IsFloor (pos n) d z) (sym c.signed-else-negative.ensures) (floor_plus n d _ _ _ _ t c.round_down.ensures))

pub returns-in-Some : goal.returns-in-Some
returns-in-Some c = λ n d p t.
    subst (λ b. IsFloor (signed_of b n) d (units_of c.signed.result)) (sym c.if-negative.true)
    (subst (λ z. IsFloor (neg_ℤ (pos n)) d z) (sym c.signed.ensures) (floor_minus n d _ _ _ _ p t c.in-Some.ensures))

pub returns-in-None : goal.returns-in-None
returns-in-None c = grind (arith, common_steps)
