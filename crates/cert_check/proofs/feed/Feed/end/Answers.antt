use Rattle.std.proofs.Common.{arith}
use Rattle.cert_check.proofs.Feeding.{ends_here}
use Rattle.cert_check.proofs.feed.Feed.end.Goals as goal

pub returns : goal.returns
returns c p bound bytes has = ends_here p bound bytes c.args.self.now c.take_rest.new.self.checker c.finish.result has (omega arith) c.take_rest.ensures c.finish.ensures
