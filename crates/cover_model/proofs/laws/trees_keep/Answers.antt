use Rattle.cover_model.proofs.Proved.{trees_keep}
use Rattle.cover_model.proofs.laws.trees_keep.Goals as goal

pub returns : goal.returns
returns c = trees_keep
