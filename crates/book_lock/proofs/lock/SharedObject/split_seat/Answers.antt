use Rattle.std.proofs.Common.{rules}
use Rattle.book_lock.proofs.Allowed.{split_allowed, number_allowed_at}
use Rattle.book_lock.proofs.lock.SharedObject.split_seat.Goals as goal

pub split_seat-new-requires : goal.split_seat-new-requires
split_seat-new-requires g c = (search rules, search rules, split_allowed g.O.Object.meets g.O.Object.steps _ _ _ _ c.requires.parts c.requires.named)

pub load-requires : goal.load-requires
load-requires g c = (search rules, search rules, number_allowed_at g.O.Object.meets g.O.Object.steps _ _ _ _ _ c.args.seat.now.me.0 c.split_seat-new.ensures.4)
