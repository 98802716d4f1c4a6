use Rattle.std.proofs.Common.{sym, ◌∙◌}
use Rattle.root_rewriting.proofs.RangeQuotients.{quotient_none, quotient_taken}
use Rattle.root_rewriting.proofs.range.quotients.quotient_range.Goals as goal

pub returns-then-avoids_nought : goal.returns-then-avoids_nought
returns-then-avoids_nought c = c.inv_mul.ensures ∙ sym (quotient_taken _ _ (sym c.avoids_nought.ensures ∙ c.if-avoids_nought.true))

pub returns-else-avoids_nought : goal.returns-else-avoids_nought
returns-else-avoids_nought c = c.everything.ensures ∙ sym (quotient_none _ _ (sym c.avoids_nought.ensures ∙ c.if-avoids_nought.false))
