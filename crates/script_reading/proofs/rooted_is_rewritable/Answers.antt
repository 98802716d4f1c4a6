use Rattle.script_reading.proofs.Rewritable.{rooted_is_rewritable}
use Rattle.script_reading.proofs.rooted_is_rewritable.Goals as goal

pub returns : goal.returns
returns c = rooted_is_rewritable
