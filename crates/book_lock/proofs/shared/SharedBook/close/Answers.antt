use Rattle.book_lock.proofs.Histories.{history_keeps_book}
use Rattle.book_lock.proofs.shared.SharedBook.close.Goals as goal

pub returns-clause-after : goal.returns-clause-after
returns-clause-after c = λ w. history_keeps_book _ _ c.close.ensures.log w c.close.ensures.legal
