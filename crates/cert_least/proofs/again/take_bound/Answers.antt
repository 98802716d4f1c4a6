use Rattle.cert_model.specs.Due.{bound_due}
use Rattle.cert_least.specs.Phases.{told_of}
use Rattle.cert_least.proofs.HeaderLines.{bound_taken}
use Rattle.cert_least.proofs.again.take_bound.Goals as goal

pub returns : goal.returns
returns c p h = bound_taken p c.args.bound c.advance.new.checker (told_of c.args.told) c.advance.result (c.advance.ensures p c.args.bound (bound_due (told_of c.args.told)) h)
