use Rattle.script_reading.proofs.Carried.{carried_begins}
use Rattle.script_reading.proofs.carried_begins.Goals as goal

pub returns : goal.returns
returns c = carried_begins
