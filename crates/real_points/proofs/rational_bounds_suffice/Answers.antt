use Rattle.real_points.proofs.LowerBounds.{rational_bounds_suffice}
use Rattle.real_points.proofs.rational_bounds_suffice.Goals as goal

pub returns : goal.returns
returns c = rational_bounds_suffice
