use Rattle.std.proofs.Common.{ap, ◌∙◌, true, get_or}
use Rattle.cover_model.specs.State.{State, undecided}
use Rattle.cover_rule.proofs.Grouped.{undecided_place}
use Rattle.cover_rule.proofs.groups.one_holds.Goals as goal

pub none_may_fail-requires-clause-atom : goal.none_may_fail-requires-clause-atom
none_may_fail-requires-clause-atom c =
    ap (λ (S : State). undecided S (get_or c.args.js.now c.loop-j.j-index 0)) c.loop-j.invariant.1
    ∙ undecided_place c.args.state.now c.args.js.now c.loop-j.j-index c.requires.first c.loop-j-test.true
