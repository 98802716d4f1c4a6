use Rattle.std.proofs.Common.{◌∷◌, map, refl}
use Rattle.cert_join.specs.Heads.{all_lines}
use Rattle.cert_join.proofs.Given.{before_many}
use Rattle.cert_join.proofs.joiner.Joiner.new.Goals as goal

pub returns-in-Ok : goal.returns-in-Ok
returns-in-Ok c = λ certs first others e t.
    let before = c.in-Ok.ensures certs (first ∷ others) e t in
    record { many = before_many certs (map all_lines (first ∷ others)) c.in-Ok.cursors.items before; at = (refl, c.new-in-Ok.ensures certs (first ∷ others) c.in-Ok.cursors.items before) }
