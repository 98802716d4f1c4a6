use Rattle.square_model.proofs.Sound.{positive_is_sound}
use Rattle.square_model.proofs.laws.positive_is_sound.Goals as goal

pub returns : goal.returns
returns c = positive_is_sound
