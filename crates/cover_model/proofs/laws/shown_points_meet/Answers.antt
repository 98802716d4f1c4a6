use Rattle.cover_model.proofs.Shown.{shown_point_meets}
use Rattle.cover_model.proofs.laws.shown_points_meet.Goals as goal

pub returns : goal.returns
returns c = shown_point_meets
