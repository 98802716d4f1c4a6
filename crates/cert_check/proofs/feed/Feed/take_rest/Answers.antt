use Rattle.cert_check.proofs.Feeding.{rest_taken}
use Rattle.cert_check.proofs.feed.Feed.take_rest.Goals as goal

pub returns : goal.returns
returns c session bound bytes has = rest_taken session bound bytes c.args.self.now c.end.new.self c.take.new.self c.take.result has c.end.ensures c.take.ensures.lines c.take.ensures.at
