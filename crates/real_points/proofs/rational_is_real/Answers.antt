use Rattle.real_points.proofs.Rational.{rational_is_real}
use Rattle.real_points.proofs.rational_is_real.Goals as goal

pub returns : goal.returns
returns c = rational_is_real
