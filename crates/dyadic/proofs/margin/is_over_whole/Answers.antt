use Rattle.std.proofs.Common.{arith}
use Rattle.dyadic.proofs.Margins.{over_next, over_other, le_test, both}
use Rattle.dyadic.proofs.margin.is_over_whole.Goals as goal
use Rattle.dyadic.proofs.margin.is_over_whole.Goals.{else-quotient-w-via-then-quotient-w+else-w-quotient-eq1, else-quotient-w-via-else-quotient-w}

pub returns-then-w-quotient-eq1 : goal.returns-then-w-quotient-eq1
returns-then-w-quotient-eq1 c = both (le_test _ _) (over_next c.args.n c.args.d c.args.w c.args.bits c.requires.positive (omega arith))

pub returns-else-quotient-w : goal.returns-else-quotient-w
returns-else-quotient-w c =
    both (le_test _ _)
    (over_other c.args.n c.args.d c.args.w c.args.bits c.requires.positive
    (λ l e. elim c.else-quotient-w.branch [
      | else-quotient-w-via-then-quotient-w+else-w-quotient-eq1 w ↦ absurd (w.if-w-quotient-eq1.false (omega (arith, e)))
      | else-quotient-w-via-else-quotient-w w ↦ (let k = w.if-quotient-w.false in omega (arith, l, k))
    ]))
