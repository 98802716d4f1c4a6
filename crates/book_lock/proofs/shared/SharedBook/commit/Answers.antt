use Rattle.cover_book.specs.Steps.{MayBeCalled, BookStep}
use Rattle.book_lock.proofs.Allowed.{made_step}
use Rattle.book_lock.proofs.Replies.{commit_replies}
use Rattle.book_lock.proofs.shared.SharedBook.commit.Goals as goal

pub unreachable-requires : goal.unreachable-requires
unreachable-requires g c =
    let t = made_step MayBeCalled BookStep _ _ _ _ _ c.requires.own.1 c.call.ensures.call in
    commit_replies t.0 t.1 c.args.node c.args.patch _ t.2 c.in_default.not-Committed c.in_default.not-Refused
