use Rattle.script_reading.proofs.Pairs.{session_goes_on}
use Rattle.script_reading.proofs.session_goes_on.Goals as goal

pub returns : goal.returns
returns c = session_goes_on
