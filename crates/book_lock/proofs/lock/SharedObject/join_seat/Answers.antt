use Rattle.std.proofs.Common.{rules}
use Rattle.book_lock.proofs.Allowed.{join_allowed, match_allowed_at}
use Rattle.book_lock.proofs.lock.SharedObject.join_seat.Goals as goal

pub join_seat-requires : goal.join_seat-requires
join_seat-requires g c =
    (search rules, search rules, search rules, search rules, join_allowed g.O.Object.meets g.O.Object.steps _ _ _ _ _ _ c.requires.rest.0 c.requires.parts c.requires.rest.2 c.requires.named c.requires.rest.3)

pub load-requires : goal.load-requires
load-requires g c = (search rules, search rules, match_allowed_at g.O.Object.meets g.O.Object.steps _ _ _ _ _ c.args.seat.now.me.0 c.args.other.me.0 _ c.join_seat.ensures.2 c.requires.parts)
