use Rattle.cover_model.proofs.CombinationCompleted.{squares_are_completed}
use Rattle.cover_model.proofs.laws.squares_are_completed.Goals as goal

pub returns : goal.returns
returns c = squares_are_completed
