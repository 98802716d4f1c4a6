use Rattle.real_points.proofs.OverReals.{unsat_is_exact_over_reals}
use Rattle.real_points.proofs.unsat_is_exact_over_reals.Goals as goal

pub returns : goal.returns
returns c = unsat_is_exact_over_reals
