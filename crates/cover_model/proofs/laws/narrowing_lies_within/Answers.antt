use Rattle.cover_model.proofs.Proved.{narrowing_lies_within}
use Rattle.cover_model.proofs.laws.narrowing_lies_within.Goals as goal

pub returns : goal.returns
returns c = narrowing_lies_within
