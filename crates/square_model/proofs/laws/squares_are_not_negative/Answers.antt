use Rattle.square_model.proofs.Sound.{squares_are_not_negative}
use Rattle.square_model.proofs.laws.squares_are_not_negative.Goals as goal

pub returns : goal.returns
returns c = squares_are_not_negative
