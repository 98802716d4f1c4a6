use Rattle.script_roots.proofs.Box.{box_is_extended}
use Rattle.script_roots.proofs.box_is_extended.Goals as goal

pub returns : goal.returns
returns c = box_is_extended
