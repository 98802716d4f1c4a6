use Rattle.script_reading.proofs.Begun.{begun_goes_on}
use Rattle.script_reading.proofs.begun_goes_on.Goals as goal

pub returns : goal.returns
returns c = begun_goes_on
