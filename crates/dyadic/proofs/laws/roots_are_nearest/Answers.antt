use Rattle.dyadic.proofs.RoundsRoots.{root_down_is, root_up_is}
use Rattle.dyadic.proofs.laws.roots_are_nearest.Goals as goal

pub returns-clause-down : goal.returns-clause-down
returns-clause-down c = root_down_is

pub returns-clause-up : goal.returns-clause-up
returns-clause-up c = root_up_is
