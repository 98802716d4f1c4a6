use Rattle.cover_model.proofs.OffRanges.{narrowing_off_keeps}
use Rattle.cover_model.proofs.laws.narrowing_off_keeps.Goals as goal

pub returns : goal.returns
returns c = narrowing_off_keeps
