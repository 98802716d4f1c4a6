use Rattle.cover_model.proofs.Proved.{enclosures_are_isotone}
use Rattle.cover_model.proofs.laws.enclosures_are_isotone.Goals as goal

pub returns : goal.returns
returns c = enclosures_are_isotone
