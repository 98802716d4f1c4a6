use Rattle.real_points.proofs.Truth.{rational_points_suffice}
use Rattle.real_points.proofs.rational_points_suffice.Goals as goal

pub returns : goal.returns
returns c = rational_points_suffice
