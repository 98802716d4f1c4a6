use Rattle.cover_data.proofs.Proved.{stuck_is_tree}
use Rattle.cover_data.proofs.laws.stuck_run_is_tree.Goals as goal

pub returns : goal.returns
returns c = stuck_is_tree
