use Rattle.real_points.proofs.LowerBounds.{lower_is_of_reals}
use Rattle.real_points.proofs.lower_is_of_reals.Goals as goal

pub returns : goal.returns
returns c = lower_is_of_reals
