use Rattle.std.proofs.Common.{Bool, cond, ap, sym, ◌∙◌}
use Rattle.cover_line.specs.Words.{empty_word}
use Rattle.cert_model.specs.Due.{RuleFails, BadNumber, faulty}
use Rattle.cert_check.proofs.names.no_crossing.Goals as goal

pub returns-then-is_axis : goal.returns-then-is_axis
returns-then-is_axis c = ap (λ (t : Bool). faulty (cond t (RuleFails empty_word) BadNumber)) (sym c.is_axis.ensures ∙ c.if-is_axis.true)

pub returns-else-is_axis : goal.returns-else-is_axis
returns-else-is_axis c = ap (λ (t : Bool). faulty (cond t (RuleFails empty_word) BadNumber)) (sym c.is_axis.ensures ∙ c.if-is_axis.false)
