use Rattle.dyadic.proofs.Rounds.{down_isotone, up_isotone}
use Rattle.dyadic.proofs.laws.rounding_keeps_order.Goals as goal

pub returns-clause-down : goal.returns-clause-down
returns-clause-down c = down_isotone

pub returns-clause-up : goal.returns-clause-up
returns-clause-up c = up_isotone
