use Rattle.std.proofs.Common.{ap, length, arith, List}
use Rattle.std.proofs.lemmas.List.{length-set}
use Rattle.ival.specs.SpaceViews.{space_of}
use Rattle.poly_graph.specs.Marks.{Mark, marked_no, unmarked}
use Rattle.cover_model.specs.State.{state_of}
use Rattle.cert_check.proofs.Grouped.{undecided_there, put_back}
use Rattle.cert_check.proofs.groups.may_without.Goals as goal

pub set-requires : goal.set-requires
set-requires c = undecided_there c.args.state.now.lits c.args.j c.requires.first

pub set-requires-2 : goal.set-requires-2
set-requires-2 c =
    omega (arith, undecided_there c.args.state.now.lits c.args.k c.requires.second, ap length c.set.ensures, length-set c.args.state.now.lits c.args.j marked_no)

pub set-requires-3 : goal.set-requires-3
set-requires-3 c =
    omega (
      arith,
      undecided_there c.args.state.now.lits c.args.k c.requires.second,
      ap length c.set.ensures,
      length-set c.args.state.now.lits c.args.j marked_no,
      ap length c.set-2.ensures,
      length-set c.set.new.self c.args.k marked_no,
    )

pub set-requires-4 : goal.set-requires-4
set-requires-4 c =
    omega (
      arith,
      undecided_there c.args.state.now.lits c.args.j c.requires.first,
      ap length c.set.ensures,
      length-set c.args.state.now.lits c.args.j marked_no,
      ap length c.set-2.ensures,
      length-set c.set.new.self c.args.k marked_no,
      ap length c.set-3.ensures,
      length-set c.set-2.new.self c.args.k unmarked,
    )

pub returns-clause-same : goal.returns-clause-same
returns-clause-same c =
    ap (λ (ms : List Mark). state_of (space_of c.args.state.now.space) ms)
    (put_back c.args.state.now.lits c.set.new.self c.set-2.new.self c.set-3.new.self c.set-4.new.self c.args.j c.args.k c.requires.first c.requires.second
    c.set.ensures c.set-2.ensures c.set-3.ensures c.set-4.ensures)
