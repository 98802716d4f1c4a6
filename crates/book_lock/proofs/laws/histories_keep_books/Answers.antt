use Rattle.book_lock.proofs.Histories
use Rattle.book_lock.proofs.laws.histories_keep_books.Goals as goal

pub returns : goal.returns
returns c = Histories.history_keeps_book
