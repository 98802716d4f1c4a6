use Rattle.cert_model.specs.Due.{version_due}
use Rattle.cert_least.proofs.HeaderLines.{version_taken}
use Rattle.cert_least.proofs.again.take_version.Goals as goal

pub returns : goal.returns
returns c p b e h = version_taken p b c.advance.new.checker c.args.version e c.advance.result (c.advance.ensures p b version_due h)
