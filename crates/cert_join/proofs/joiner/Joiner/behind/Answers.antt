use Rattle.std.proofs.Common.{◌∷◌, subst}
use Rattle.cert_join.specs.declared.joiner.Stage.{Stage}
use Rattle.cert_join.specs.Gathered.{lists_of}
use Rattle.cert_join.specs.Joining.{IsOver}
use Rattle.cert_join.proofs.Stages.{joined_text}
use Rattle.cert_join.proofs.joiner.Joiner.behind.Goals as goal

pub returns-in-Ok-clause-next : goal.returns-in-Ok-clause-next
returns-in-Ok-clause-next c certs first others done texts h =
    let P : Stage → Type 0 = λ s. IsOver certs first (first ∷ others) done c.args.text.now.items (lists_of c.args.self.now.numbers.items) s c.args.self.now.cursors.items in
    let over = subst P c.in-Trees.is h in
    joined_text first (first ∷ others) (lists_of c.args.self.now.numbers.items) over.1.0 done c.args.text.now.items c.extend_from_slice.new.self.items over.0 over.1.1 over.1.2
    c.in-Ok.ensures.items
