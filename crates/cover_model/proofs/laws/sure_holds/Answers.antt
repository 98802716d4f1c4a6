use Rattle.cover_model.proofs.Proved.{sure_holds}
use Rattle.cover_model.proofs.laws.sure_holds.Goals as goal

pub returns : goal.returns
returns c = sure_holds
