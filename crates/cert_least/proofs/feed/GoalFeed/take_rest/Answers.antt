use Rattle.cert_least.proofs.Feeding.{rest_taken}
use Rattle.cert_least.proofs.feed.GoalFeed.take_rest.Goals as goal

pub returns : goal.returns
returns c a bytes has = rest_taken a bytes c.args.self.now c.end.new.self c.take.new.self c.take.result has c.end.ensures c.take.ensures.lines c.take.ensures.at
