use Rattle.std.proofs.Common.{arith}
use Rattle.cover_data.proofs.Withins.{undecided_below}
use Rattle.cover_rule.proofs.Grouped.{undecided_place}
use Rattle.cover_rule.proofs.groups.none_misses.Goals as goal

pub meets_range-requires-clause-small : goal.meets_range-requires-clause-small
meets_range-requires-clause-small c =
    omega (arith, undecided_below c.args.state.now.marks _ (undecided_place c.args.state.now c.args.js.now c.loop-j.j-index c.requires.group c.loop-j-test.true), c.requires.state.marks)

pub meets_range-requires-clause-atom : goal.meets_range-requires-clause-atom
meets_range-requires-clause-atom c = undecided_place c.args.state.now c.args.js.now c.loop-j.j-index c.requires.group c.loop-j-test.true
