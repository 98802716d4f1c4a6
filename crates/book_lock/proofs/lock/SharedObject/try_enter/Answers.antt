use Rattle.std.proofs.Common.{rules}
use Rattle.book_lock.proofs.Allowed.{take_allowed, taken_if_free}
use Rattle.book_lock.proofs.lock.SharedObject.try_enter.Goals as goal

pub compare_exchange-requires : goal.compare_exchange-requires
compare_exchange-requires g c = let i = c.requires.rest in
    (search rules, search rules, take_allowed g.O.Object.meets g.O.Object.steps _ _ _ _ _ 0 1 _ taken_if_free i.0 i.1 i.2)
