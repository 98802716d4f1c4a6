use Rattle.real_points.proofs.Truth.{truth_is_of_the_point}
use Rattle.real_points.proofs.truth_is_of_the_point.Goals as goal

pub returns : goal.returns
returns c = truth_is_of_the_point
