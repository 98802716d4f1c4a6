use Rattle.goal_limit.proofs.Counts.{far_up}
use Rattle.goal_limit.proofs.constants.raised.Goals as goal

pub returns-then-up-ge120 : goal.returns-then-up-ge120
returns-then-up-ge120 c = far_up c.args.size c.args.up c.requires.some c.if-up-ge120.true
