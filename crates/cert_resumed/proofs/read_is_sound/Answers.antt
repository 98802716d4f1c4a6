use Rattle.cert_resumed.proofs.Leaving
use Rattle.cert_resumed.proofs.read_is_sound.Goals as goal

pub returns : goal.returns
returns c = Leaving.read_is_sound
