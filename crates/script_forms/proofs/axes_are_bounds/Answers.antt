use Rattle.script_forms.proofs.Kept.{axes_bounds}
use Rattle.script_forms.proofs.axes_are_bounds.Goals as goal

pub returns : goal.returns
returns c = axes_bounds
