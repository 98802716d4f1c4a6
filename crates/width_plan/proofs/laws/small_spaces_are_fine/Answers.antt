use Rattle.width_plan.proofs.Stuck.{small_is_fine}
use Rattle.width_plan.proofs.laws.small_spaces_are_fine.Goals as goal

pub returns : goal.returns
returns c = small_is_fine
