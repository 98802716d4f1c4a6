use Rattle.cover_model.proofs.CombinationListed.{lists_are_swept}
use Rattle.cover_model.proofs.laws.lists_are_swept.Goals as goal

pub returns : goal.returns
returns c = lists_are_swept
