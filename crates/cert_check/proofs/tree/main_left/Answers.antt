use Rattle.std.proofs.Common.{sym, ap, ◌∙◌}
use Rattle.cert_check.specs.States.{state_of, loosenings_of}
use Rattle.cert_check.specs.Steps.{left_of}
use Rattle.cert_check.specs.Behind.{pending_of}
use Rattle.cert_check.specs.Waiting.{waiting}
use Rattle.cert_check.proofs.Waits.{main_on, tree_behind}
use Rattle.cert_check.proofs.tree.main_left.Goals as goal

pub returns-in-Some-clause-comes : goal.returns-in-Some-clause-comes
returns-in-Some-clause-comes c p f x =
    main_on (loosenings_of c.args.cover.loosenings) c.args.cover.lemmas (left_of c.args.left) f x (pending_of c.args.pending) c.args.stayed
    c.count_stays-stayed.result c.count_stays-stayed.ensures (state_of c.in-Some.tree.state) (pending_of c.in-Some.tree.pending) (sym c.in_ok-leave.ensures ∙ ap waiting c.in-Some.is)

pub returns-in-Some-clause-sound : goal.returns-in-Some-clause-sound
returns-in-Some-clause-sound c p lemmas pending left =
    (lemmas, tree_behind p (left_of c.args.left) (pending_of c.args.pending) c.in-Some.tree pending left (ap waiting (sym c.in-Some.is) ∙ c.in_ok-leave.ensures))
