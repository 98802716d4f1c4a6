use Rattle.cover_model.proofs.CombinationWithin.{combining_lies_within}
use Rattle.cover_model.proofs.laws.combining_lies_within.Goals as goal

pub returns : goal.returns
returns c = combining_lies_within
