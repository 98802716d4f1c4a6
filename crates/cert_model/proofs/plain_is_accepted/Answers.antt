use Rattle.cert_model.proofs.PlainGoal
use Rattle.cert_model.proofs.plain_is_accepted.Goals as goal

pub returns : goal.returns
returns c = PlainGoal.plain_accepted
