use Rattle.std.proofs.Common.{ap, arith, length}
use Rattle.cover_model.specs.State.{State}
use Rattle.cover_data.proofs.Withins.{undecided_below}
use Rattle.cover_data.proofs.kids.cases.Goals as goal

pub set_mark-requires : goal.set_mark-requires
set_mark-requires c = let h = undecided_below c.args.state.now.marks c.args.j c.requires in omega (arith, h, ap (λ (S : State). length S.marks) c.in_ok-yes.ensures)

pub set_mark-requires-2 : goal.set_mark-requires-2
set_mark-requires-2 c = let h = undecided_below c.args.state.now.marks c.args.j c.requires in omega (arith, h, ap (λ (S : State). length S.marks) c.in_ok-no.ensures)
