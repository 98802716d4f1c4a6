use Rattle.cover_model.proofs.Proved.{covered_points}
use Rattle.cover_model.proofs.laws.covered_points.Goals as goal

pub returns : goal.returns
returns c = covered_points
