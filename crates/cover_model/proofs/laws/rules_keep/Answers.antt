use Rattle.cover_model.proofs.Proved.{rules_keep}
use Rattle.cover_model.proofs.laws.rules_keep.Goals as goal

pub returns : goal.returns
returns c = rules_keep
