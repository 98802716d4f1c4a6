use Rattle.dyadic.proofs.Rounds.{down_is, up_is}
use Rattle.dyadic.proofs.laws.rounding_is_nearest.Goals as goal

pub returns-clause-down : goal.returns-clause-down
returns-clause-down c = down_is

pub returns-clause-up : goal.returns-clause-up
returns-clause-up c = up_is
