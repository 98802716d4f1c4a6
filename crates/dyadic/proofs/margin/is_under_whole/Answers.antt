use Rattle.dyadic.proofs.Margins.{under_same, under_other, le_test, lt_test, both}
use Rattle.dyadic.proofs.margin.is_under_whole.Goals as goal

pub returns-then-quotient-w : goal.returns-then-quotient-w
returns-then-quotient-w c = both (le_test _ _) (under_same c.args.n c.args.d c.args.w c.args.bits c.requires.positive c.if-quotient-w.true)

pub returns-else-quotient-w : goal.returns-else-quotient-w
returns-else-quotient-w c = both (lt_test _ _) (under_other c.args.n c.args.d c.args.w c.args.bits c.requires.positive c.requires.some c.if-quotient-w.false)
