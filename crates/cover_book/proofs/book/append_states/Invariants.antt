use Rattle.std.proofs.Common.{◌≡◌, ◌++◌, map, length}
use Rattle.std.specs.Prelude.{reverse}
use Rattle.cover_book.specs.Model.{learned_states}
use Rattle.cover_book.specs.Views.{learned_of}
use Rattle.cover_book.proofs.book.append_states.Given as goal

abbrev pub invariant-loop-lemma : goal.invariant-loop-lemma
invariant-loop-lemma l = l.states.items ++ learned_states (map learned_of (reverse l.left.items)) ≡ l.fn.states.items ++ learned_states (map learned_of l.fn.lemmas.items)

abbrev pub decreases-loop-lemma : goal.decreases-loop-lemma
decreases-loop-lemma l = length l.left.items
