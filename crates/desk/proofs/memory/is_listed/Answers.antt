use Rattle.std.proofs.Common.{sym, ◌∙◌}
use Rattle.desk.proofs.Due.{due, found}
use Rattle.desk.proofs.memory.is_listed.Goals as goal

pub returns : goal.returns
returns c = (λ h. due _ _ (sym c.contains.ensures.value ∙ h), λ h. c.contains.ensures.value ∙ found _ _ h)
