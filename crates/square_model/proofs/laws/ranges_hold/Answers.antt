use Rattle.square_model.proofs.Sound.{ranges_hold}
use Rattle.square_model.proofs.laws.ranges_hold.Goals as goal

pub returns : goal.returns
returns c = ranges_hold
