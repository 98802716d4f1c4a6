use Rattle.cover_data.proofs.Proved.{branch_keeps}
use Rattle.cover_data.proofs.laws.branch_keeps_points.Goals as goal

pub returns : goal.returns
returns c = branch_keeps
