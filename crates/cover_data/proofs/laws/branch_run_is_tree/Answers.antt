use Rattle.cover_data.proofs.Proved.{branch_is_tree}
use Rattle.cover_data.proofs.laws.branch_run_is_tree.Goals as goal

pub returns : goal.returns
returns c = branch_is_tree
