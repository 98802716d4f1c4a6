use Rattle.book_lock.proofs.Histories
use Rattle.book_lock.proofs.laws.histories_have_books.Goals as goal

pub returns : goal.returns
returns c = Histories.history_has_books
