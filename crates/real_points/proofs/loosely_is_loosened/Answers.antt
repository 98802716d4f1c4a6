use Rattle.real_points.proofs.OverReals.{loosely_is_at_the_limit}
use Rattle.real_points.proofs.loosely_is_loosened.Goals as goal

pub returns : goal.returns
returns c = loosely_is_at_the_limit
