use Rattle.cover_model.proofs.Proved.{narrowing_keeps}
use Rattle.cover_model.proofs.laws.narrowing_keeps.Goals as goal

pub returns : goal.returns
returns c = narrowing_keeps
