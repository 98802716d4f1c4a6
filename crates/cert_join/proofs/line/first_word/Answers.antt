use Rattle.cert_join.proofs.Spaced.{first_cut, first_whole}
use Rattle.cert_join.proofs.line.first_word.Goals as goal

pub returns-in-Some : goal.returns-in-Some
returns-in-Some c = first_cut _ _ c.in-Some.ensures.0 c.in-Some.ensures.1

pub returns-in-None : goal.returns-in-None
returns-in-None c = first_whole _ c.in-None.ensures
