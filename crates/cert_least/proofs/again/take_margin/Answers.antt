use Rattle.cert_model.specs.Due.{margin_due}
use Rattle.cert_least.proofs.HeaderLines.{margin_taken}
use Rattle.cert_least.proofs.again.take_margin.Goals as goal

pub returns : goal.returns
returns c p b h = margin_taken p b c.advance.new.checker c.args.version c.args.margin c.advance.result (c.advance.ensures p b (margin_due c.args.version) h)
