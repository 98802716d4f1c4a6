use Rattle.std.proofs.Common.{ap, length, arith}
use Rattle.std.proofs.Math.ListN.{length-set}
use Rattle.poly_graph.specs.Marks.{marked_no, unmarked}
use Rattle.cover_model.specs.State.{State}
use Rattle.cover_data.proofs.Withins.{undecided_below}
use Rattle.cover_rule.proofs.Grouped.{both_taken_back}
use Rattle.cover_rule.proofs.groups.may_without.Goals as goal

pub set_mark-requires : goal.set_mark-requires
set_mark-requires c = undecided_below c.args.state.now.marks c.args.j c.requires.first

pub set_mark-requires-2 : goal.set_mark-requires-2
set_mark-requires-2 c =
    let k = undecided_below c.args.state.now.marks c.args.k c.requires.second in
    omega (arith, k, ap (λ (S : State). length S.marks) c.set_mark.ensures, length-set c.args.state.now.marks c.args.j marked_no)

pub set_mark-requires-3 : goal.set_mark-requires-3
set_mark-requires-3 c =
    let k = undecided_below c.args.state.now.marks c.args.k c.requires.second in
    omega (
      arith,
      k,
      ap (λ (S : State). length S.marks) c.set_mark.ensures,
      length-set c.args.state.now.marks c.args.j marked_no,
      ap (λ (S : State). length S.marks) c.set_mark-2.ensures,
      length-set c.set_mark.new.self.marks c.args.k marked_no,
    )

pub set_mark-requires-4 : goal.set_mark-requires-4
set_mark-requires-4 c =
    let j = undecided_below c.args.state.now.marks c.args.j c.requires.first in
    omega (
      arith,
      j,
      ap (λ (S : State). length S.marks) c.set_mark.ensures,
      length-set c.args.state.now.marks c.args.j marked_no,
      ap (λ (S : State). length S.marks) c.set_mark-2.ensures,
      length-set c.set_mark.new.self.marks c.args.k marked_no,
      ap (λ (S : State). length S.marks) c.set_mark-3.ensures,
      length-set c.set_mark-2.new.self.marks c.args.k unmarked,
    )

pub returns-clause-state : goal.returns-clause-state
returns-clause-state c =
    both_taken_back c.args.state.now c.set_mark.new.self c.set_mark-2.new.self c.set_mark-3.new.self c.set_mark-4.new.self c.args.j c.args.k c.requires.first c.requires.second
    c.set_mark.ensures c.set_mark-2.ensures c.set_mark-3.ensures c.set_mark-4.ensures
