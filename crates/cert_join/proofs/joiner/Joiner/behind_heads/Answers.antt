use Rattle.std.proofs.Common.{◌∷◌, refl}
use Rattle.cert_join.proofs.joiner.Joiner.behind_heads.Goals as goal

pub returns-clause-stage : goal.returns-clause-stage
returns-clause-stage c certs first others done e h =
    (e, record { alike = h.alike first others refl; text = h.text first others refl }, c.new.ensures certs (first ∷ others) _ h.before)
