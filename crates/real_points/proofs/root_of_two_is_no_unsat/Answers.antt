use Rattle.real_points.proofs.RootOfTwo.{root_is_no_unsat}
use Rattle.real_points.proofs.root_of_two_is_no_unsat.Goals as goal

pub returns : goal.returns
returns c = root_is_no_unsat
