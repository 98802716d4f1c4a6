use Rattle.std.proofs.Common.{◌≡◌, drop}
use Rattle.cert_read.specs.Lines.{are_words, words_of}
use Rattle.cert_read.proofs.WordSteps.{seen}
use Rattle.cert_read.proofs.parse.are_words.Given as goal

abbrev pub invariant-loop-b : goal.invariant-loop-b
invariant-loop-b l = seen l.in_word (drop l.b-index l.bytes) ≡ are_words (words_of l.bytes)
