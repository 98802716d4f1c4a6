use Rattle.std.proofs.Common.{rules}
use Rattle.cover_book.proofs.book.Book.state_of.Goals as goal

pub returns-in-Err : goal.returns-in-Err
returns-in-Err c = search rules
