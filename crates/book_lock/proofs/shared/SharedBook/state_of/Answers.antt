use Rattle.cover_book.specs.Steps.{MayBeCalled, BookStep}
use Rattle.book_lock.proofs.Allowed.{made_step}
use Rattle.book_lock.proofs.Replies.{state_replies}
use Rattle.book_lock.proofs.shared.SharedBook.state_of.Goals as goal

pub unreachable-requires : goal.unreachable-requires
unreachable-requires g c =
    let t = made_step MayBeCalled BookStep _ _ _ _ _ c.requires.1 c.call.ensures.call in
    state_replies t.0 t.1 _ _ t.2 c.in_default.not-LiveState c.in_default.not-Refused
