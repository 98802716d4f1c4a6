use Rattle.std.proofs.Common.{rules, arith}
use Rattle.book_lock.proofs.Allowed.{take_allowed}
use Rattle.book_lock.proofs.lock.SharedObject.enter_or_ask.Goals as goal

pub swap-requires : goal.swap-requires
swap-requires g c = let i = c.requires.rest in
    (search rules, search rules, take_allowed g.O.Object.meets g.O.Object.steps _ _ _ _ _ 2 0 (λ _. 2) (λ _. omega arith) i.0 i.1 i.2)
