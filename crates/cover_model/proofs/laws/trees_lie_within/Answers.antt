use Rattle.cover_model.proofs.Proved.{trees_lie_within}
use Rattle.cover_model.proofs.laws.trees_lie_within.Goals as goal

pub returns : goal.returns
returns c = trees_lie_within
