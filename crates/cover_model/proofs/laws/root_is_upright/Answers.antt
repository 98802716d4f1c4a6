use Rattle.cover_model.proofs.Middle.{root_is_upright}
use Rattle.cover_model.proofs.laws.root_is_upright.Goals as goal

pub returns : goal.returns
returns c = root_is_upright
