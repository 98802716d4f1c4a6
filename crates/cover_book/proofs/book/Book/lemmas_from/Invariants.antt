use Rattle.std.proofs.Common.{◌≡◌, ◌++◌, drop}
use Rattle.cover_book.specs.Model.{numbered_from, numbered, lemma_states_in}
use Rattle.cover_book.proofs.book.Book.lemmas_from.Given as goal

abbrev pub invariant-loop-id : goal.invariant-loop-id
invariant-loop-id l = l.copies.items ++ numbered_from l.id (drop l.id (lemma_states_in l.self)) ≡ drop l.from (numbered l.self)
