use Rattle.cover_model.proofs.Proved.{closed_trees_have_none}
use Rattle.cover_model.proofs.laws.closed_trees_have_none.Goals as goal

pub returns : goal.returns
returns c = closed_trees_have_none
