use Rattle.goal_limit.proofs.Counts.{whole_lowest}
use Rattle.goal_limit.proofs.constants.whole.Goals as goal

pub invariant_of-result : goal.invariant_of-result
invariant_of-result c = record { lowest = whole_lowest c.args.n c.requires }
