use Rattle.book_lock.proofs.Histories
use Rattle.book_lock.proofs.laws.replies_are_of_books.Goals as goal

pub returns : goal.returns
returns c = Histories.reply_is_of_book
