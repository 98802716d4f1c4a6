use Rattle.std.proofs.Common.{◌∷◌, [], arith, ◌∙◌}
use Rattle.dyadic.specs.declared.dy.Dy.{Dy}
use Rattle.dyadic.specs.NumberText.{number_spelling}
use Rattle.dyadic.specs.Views.{dyadic_of}
use Rattle.cert_text.proofs.Items.{map_twice}
use Rattle.cert_text.proofs.Words.{item_words, items_words, same_words, singles, spaced_word}
use Rattle.cert_text.proofs.squares.append_row.Goals as goal

pub loop-number-preserved : goal.loop-number-preserved
loop-number-preserved c =
    item_words (λ (d : Dy). number_spelling (dyadic_of d) ∷ []) c.args.row.now c.args.text.now.items c.loop-number.text.items c.append_number.new.text.items c.loop-number.number-index c.number-item.result
    (omega (arith, c.loop-number-test.true)) c.number-item.is c.loop-number.invariant
    (spaced_word (number_spelling (dyadic_of c.number-item.result)) _ _ _ c.append_number.ensures.short c.in_ok-extend_from_slice.ensures.items c.in_ok-append_number.ensures.text)

pub returns : goal.returns
returns c =
    same_words _ _ _ _ (singles (λ (d : Dy). number_spelling (dyadic_of d)) c.args.row.now ∙ map_twice number_spelling dyadic_of c.args.row.now)
    (items_words (λ (d : Dy). number_spelling (dyadic_of d) ∷ []) c.args.row.now c.args.text.now.items c.loop-number.text.items c.loop-number.number-index (omega (arith, c.loop-number-test.false)) c.loop-number.invariant)
