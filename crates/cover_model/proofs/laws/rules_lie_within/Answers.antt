use Rattle.cover_model.proofs.Proved.{rules_lie_within}
use Rattle.cover_model.proofs.laws.rules_lie_within.Goals as goal

pub returns : goal.returns
returns c = rules_lie_within
