use Rattle.real_points.proofs.Truth.{unsat_is_of_reals}
use Rattle.real_points.proofs.unsat_is_of_reals.Goals as goal

pub returns : goal.returns
returns c = unsat_is_of_reals
