use Rattle.std.proofs.Common.{◌∙◌}
use Rattle.cert_least.specs.Checked.{aim_at}
use Rattle.cert_least.proofs.Feeding.{feed_start}
use Rattle.cert_least.proofs.feed.GoalFeed.new.Goals as goal

pub returns : goal.returns
returns c =
    feed_start (aim_at c.args.problem.now c.args.goal c.args.bound) c.begin.result (c.begin.ensures.checker ∙ c.in_ok-checker.ensures) c.begin.ensures.reader c.begin.ensures.taken
