use Rattle.std.proofs.Common.{arith}
use Rattle.cert_check.proofs.Feeding.{all_end_here}
use Rattle.cert_check.proofs.feed.Feed.end_all.Goals as goal

pub returns : goal.returns
returns c session bound bytes has = all_end_here session bound bytes c.args.self.now c.take_rest.new.self.checker c.finish_all.result has (omega arith) c.take_rest.ensures c.finish_all.ensures
