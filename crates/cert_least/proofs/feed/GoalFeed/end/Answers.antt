use Rattle.std.proofs.Common.{arith}
use Rattle.cert_least.proofs.Feeding.{ends_here}
use Rattle.cert_least.proofs.feed.GoalFeed.end.Goals as goal

pub returns : goal.returns
returns c p g bound bytes has = ends_here p g bound bytes c.args.self.now c.take_rest.new.self.checker c.finish.result has (omega arith) c.take_rest.ensures c.finish.ensures.verdict
