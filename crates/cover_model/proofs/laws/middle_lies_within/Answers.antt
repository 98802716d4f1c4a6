use Rattle.cover_model.proofs.Middle.{middle_lies_within}
use Rattle.cover_model.proofs.laws.middle_lies_within.Goals as goal

pub returns : goal.returns
returns c = middle_lies_within
