use Rattle.std.proofs.Common.{map, take}
use Rattle.cert_text.specs.Ruled.{HasWords}
use Rattle.cert_text.proofs.Words.{flat}
use Rattle.cert_text.proofs.SquareWords.{row_of_words}
use Rattle.cert_text.proofs.squares.append_rows.Given as goal

abbrev pub invariant-loop-row : goal.invariant-loop-row
invariant-loop-row l = HasWords l.fn.text.items (flat (map row_of_words (take l.row-index l.rows))) l.text.items
