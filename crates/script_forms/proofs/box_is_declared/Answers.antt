use Rattle.script_forms.proofs.Box.{box_declared}
use Rattle.script_forms.proofs.box_is_declared.Goals as goal

pub returns : goal.returns
returns c = box_declared
