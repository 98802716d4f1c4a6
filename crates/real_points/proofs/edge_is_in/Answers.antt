use Rattle.real_points.proofs.RootOfTwo.{edge_is_in}
use Rattle.real_points.proofs.edge_is_in.Goals as goal

pub returns : goal.returns
returns c = edge_is_in
