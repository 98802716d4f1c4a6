use Rattle.std.proofs.lemmas.Grind.{common_steps}
use Rattle.form_truth.proofs.Ordered.{nought_here, before_next, last_here}
use Rattle.std.proofs.Common.{arith}
use Rattle.form_truth.proofs.combinable.is_in_order.Goals as goal

pub returns-then-not-is_other_than_nought : goal.returns-then-not-is_other_than_nought
returns-then-not-is_other_than_nought c = grind (arith, nought_here, before_next, last_here)

pub returns-then-k-multipliers : goal.returns-then-k-multipliers
returns-then-k-multipliers c = grind (arith, common_steps)

pub returns : goal.returns
returns c = grind (arith, common_steps)
