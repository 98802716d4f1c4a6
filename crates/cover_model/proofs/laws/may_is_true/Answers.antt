use Rattle.cover_model.proofs.Proved.{may_is_true}
use Rattle.cover_model.proofs.laws.may_is_true.Goals as goal

pub returns : goal.returns
returns c = may_is_true
