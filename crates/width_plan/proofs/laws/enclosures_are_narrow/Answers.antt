use Rattle.width_plan.proofs.Stuck.{enclosure_is_narrow}
use Rattle.width_plan.proofs.laws.enclosures_are_narrow.Goals as goal

pub returns : goal.returns
returns c = enclosure_is_narrow
