use Rattle.real_points.proofs.Irrational.{no_fraction_satisfies}
use Rattle.real_points.proofs.no_fraction_satisfies.Goals as goal

pub returns : goal.returns
returns c = no_fraction_satisfies
