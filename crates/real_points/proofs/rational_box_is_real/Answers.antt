use Rattle.real_points.proofs.RationalBox.{rational_in_box}
use Rattle.real_points.proofs.rational_box_is_real.Goals as goal

pub returns : goal.returns
returns c = rational_in_box
