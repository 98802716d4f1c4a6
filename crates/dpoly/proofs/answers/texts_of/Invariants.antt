use Rattle.std.proofs.Common.{drop}
use Rattle.dpoly.proofs.SessionAnswers.{TextsSoFar}
use Rattle.dpoly.proofs.answers.texts_of.Given as goal

-- of the books behind the index nothing is told yet
abbrev pub invariant-loop-book : goal.invariant-loop-book
invariant-loop-book l = TextsSoFar l.options l.books (drop l.book-index l.books) l.text.items
