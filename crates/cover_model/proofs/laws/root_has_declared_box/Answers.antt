use Rattle.cover_model.proofs.Proved.{root_has_declared_box}
use Rattle.cover_model.proofs.laws.root_has_declared_box.Goals as goal

pub returns : goal.returns
returns c = root_has_declared_box
