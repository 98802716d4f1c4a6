use Rattle.cert_least.proofs.given.advance.Goals as goal

pub returns-in-Ok : goal.returns-in-Ok
returns-in-Ok c p b d h = (c.in-Ok.ensures p b d h).1

pub returns-in-Err : goal.returns-in-Err
returns-in-Err c = c.in-Err.ensures
