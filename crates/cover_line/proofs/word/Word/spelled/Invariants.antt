use Rattle.cover_line.proofs.AllWords.{AllDiffer}
use Rattle.cover_line.proofs.word.Word.spelled.Given as goal

abbrev pub invariant-loop-word : goal.invariant-loop-word
invariant-loop-word l = AllDiffer l.bytes l.word-index
