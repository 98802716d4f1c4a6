use Rattle.cover_model.proofs.Proved.{crossed_box_is_empty}
use Rattle.cover_model.proofs.laws.crossed_box_is_empty.Goals as goal

pub returns : goal.returns
returns c = crossed_box_is_empty
