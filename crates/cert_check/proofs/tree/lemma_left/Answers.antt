use Rattle.std.proofs.Common.{sym, ap, ◌∙◌}
use Rattle.cert_check.specs.Steps.{left_of}
use Rattle.cert_check.specs.Behind.{pending_of}
use Rattle.cert_check.specs.Waiting.{waiting}
use Rattle.cert_check.proofs.Waits.{tree_behind}
use Rattle.cert_check.proofs.tree.lemma_left.Goals as goal

pub returns-in-Some-clause-sound : goal.returns-in-Some-clause-sound
returns-in-Some-clause-sound c p lemmas lemma pending left =
    (lemmas, lemma, tree_behind p (left_of c.args.left) (pending_of c.args.pending) c.in-Some.tree pending left (ap waiting (sym c.in-Some.is) ∙ c.in_ok-leave.ensures))
