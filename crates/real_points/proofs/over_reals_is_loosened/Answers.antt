use Rattle.real_points.proofs.OverReals.{over_reals_is_loosened}
use Rattle.real_points.proofs.over_reals_is_loosened.Goals as goal

pub returns : goal.returns
returns c = over_reals_is_loosened
