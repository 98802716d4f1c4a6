use Rattle.std.proofs.Common.{ap, ◌∙◌, true, get_or}
use Rattle.cover_model.specs.State.{State, undecided}
use Rattle.cover_rule.proofs.Grouped.{undecided_place}
use Rattle.cover_rule.proofs.groups.none_may_fail.Goals as goal

pub may_without-requires-clause-second : goal.may_without-requires-clause-second
may_without-requires-clause-second c =
    ap (λ (S : State). undecided S (get_or c.args.ks.now c.loop-k.k-index 0)) c.loop-k.invariant.1
    ∙ undecided_place c.args.state.now c.args.ks.now c.loop-k.k-index c.requires.group c.loop-k-test.true
