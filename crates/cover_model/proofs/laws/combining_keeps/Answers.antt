use Rattle.cover_model.proofs.CombinationKeeps.{combining_keeps}
use Rattle.cover_model.proofs.laws.combining_keeps.Goals as goal

pub returns : goal.returns
returns c = combining_keeps
