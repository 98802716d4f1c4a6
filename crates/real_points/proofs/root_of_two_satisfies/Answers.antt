use Rattle.real_points.proofs.RootOfTwo.{root_satisfies}
use Rattle.real_points.proofs.root_of_two_satisfies.Goals as goal

pub returns : goal.returns
returns c = root_satisfies
