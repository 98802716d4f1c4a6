use Rattle.cert_join.proofs.Spaced.{last_cut, last_none}
use Rattle.cert_join.proofs.line.last_word.Goals as goal

pub returns-in-Some : goal.returns-in-Some
returns-in-Some c front w e h =
    last_cut _ front w _ _ _ c.in-Some.ensures.0 c.in-Some.ensures.1 c.split_at.ensures.front c.split_at.ensures.back e h

pub returns-in-None : goal.returns-in-None
returns-in-None c front w e h = absurd (last_none _ front w c.in-None.ensures e)
