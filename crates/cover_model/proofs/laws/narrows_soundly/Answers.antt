use Rattle.cover_model.proofs.Proved.{narrows_soundly}
use Rattle.cover_model.proofs.laws.narrows_soundly.Goals as goal

pub returns : goal.returns
returns c = narrows_soundly
