use Rattle.std.proofs.Common.{sym, subst, arith}
use Rattle.sort_check.specs.Room.{Falls, room_from}
use Rattle.sort_check.proofs.Falling as falling
use Rattle.sort_check.proofs.expressions.enter.Goals as goal

pub returns-in-Leaf-clause-falls : goal.returns-in-Leaf-clause-falls
returns-in-Leaf-clause-falls c =
    let s = c.args.sexps.now in
    let room = room_from s c.args.at in
    subst (λ r. Falls s room r) (sym c.back-in-Leaf.ensures) (falling.falls_back s room c.leaf_sort.result (falling.room_some s c.args.at))

pub returns-clause-falls : goal.returns-clause-falls
returns-clause-falls c =
    let s = c.args.sexps.now in
    let later = falling.room_later s c.args.at c.in-Group.inside c.in-Group.ensures.1 c.in-Group.ensures.3 in
    falling.falls_within s _ _ c.group.result (omega (arith, later)) c.group.ensures.falls
