use Rattle.cover_data.proofs.Proved.{steps_before}
use Rattle.cover_data.proofs.laws.steps_before_tree.Goals as goal

pub returns : goal.returns
returns c = steps_before
