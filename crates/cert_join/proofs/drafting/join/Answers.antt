use Rattle.cert_join.proofs.Drafts.{joins_all}
use Rattle.cert_join.proofs.drafting.join.Goals as goal

pub returns : goal.returns
returns g c = λ s p b before way.
    joins_all s p b c.args.count before c.new-text.result.items c.in-Ok.joiner c.run.new.joiner _ _ _ _ c.run.new.text.items c.run.result c.in-Ok.ensures c.new-text.ensures.items way c.run.ensures

pub returns-in_default : goal.returns-in_default
returns-in_default g c = λ s p b before way. record { stopped = (before, way.drafted); reason = λ certs first others shown many texts. tt }
