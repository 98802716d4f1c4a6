use Rattle.square_model.proofs.Sound.{polynomials_enclose}
use Rattle.square_model.proofs.laws.polynomials_enclose.Goals as goal

pub returns : goal.returns
returns c = polynomials_enclose
