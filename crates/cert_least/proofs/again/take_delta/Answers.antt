use Rattle.cert_model.specs.Due.{delta_due}
use Rattle.cert_least.specs.Phases.{told_of}
use Rattle.cert_least.proofs.HeaderLines.{delta_taken}
use Rattle.cert_least.proofs.again.take_delta.Goals as goal

pub returns : goal.returns
returns c p b e h = delta_taken p b c.advance.new.checker (told_of c.args.told) e c.advance.result (c.advance.ensures p b (delta_due c.args.told.version c.args.told.margin) h)
