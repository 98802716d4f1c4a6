use Rattle.std.proofs.Common.{◌∷◌, [], map, take}
use Rattle.dyadic.specs.declared.dy.Dy.{Dy}
use Rattle.dyadic.specs.NumberText.{number_spelling}
use Rattle.dyadic.specs.Views.{dyadic_of}
use Rattle.cert_text.specs.Ruled.{HasWords}
use Rattle.cert_text.proofs.Words.{flat}
use Rattle.cert_text.proofs.squares.append_row.Given as goal

abbrev pub invariant-loop-number : goal.invariant-loop-number
invariant-loop-number l = HasWords l.fn.text.items (flat (map (λ (d : Dy). number_spelling (dyadic_of d) ∷ []) (take l.number-index l.row))) l.text.items
