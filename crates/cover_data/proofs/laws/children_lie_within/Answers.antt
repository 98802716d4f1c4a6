use Rattle.cover_data.proofs.Proved.{children_within}
use Rattle.cover_data.proofs.laws.children_lie_within.Goals as goal

pub returns : goal.returns
returns c = children_within
