use Rattle.width_plan.proofs.Stuck.{nothing_is_stuck}
use Rattle.width_plan.proofs.laws.nothing_is_stuck.Goals as goal

pub returns : goal.returns
returns c = nothing_is_stuck
