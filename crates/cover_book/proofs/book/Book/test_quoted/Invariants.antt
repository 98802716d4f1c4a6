use Rattle.std.proofs.Common.{take}
use Rattle.cover_book.specs.Steps.{QuotesKnownLemmas}
use Rattle.cover_book.proofs.book.Book.test_quoted.Given as goal

abbrev pub invariant-loop-lemma : goal.invariant-loop-lemma
invariant-loop-lemma l = QuotesKnownLemmas l.self (take l.lemma-index l.quoted)
