use Rattle.cover_model.proofs.Proved.{enclosures_hold}
use Rattle.cover_model.proofs.laws.enclosures_hold.Goals as goal

pub returns : goal.returns
returns c = enclosures_hold
