use Rattle.std.proofs.Common.{List, map, ap, arith}
use Rattle.dyadic.specs.declared.dy.Dy.{Dy}
use Rattle.dyadic.specs.NumberText.{number_spelling}
use Rattle.dyadic.specs.Views.{dyadic_of}
use Rattle.cert_text.proofs.Words.{item_words, items_words, same_words}
use Rattle.cert_text.proofs.SquareWords.{row_of_words, rows_flat}
use Rattle.cert_text.proofs.squares.append_rows.Goals as goal

pub loop-row-preserved : goal.loop-row-preserved
loop-row-preserved c =
    item_words row_of_words c.args.rows.now c.args.text.now.items c.loop-row.text.items c.append_row.new.text.items c.loop-row.row-index c.row-item.result
    (omega (arith, c.loop-row-test.true)) c.row-item.is c.loop-row.invariant
    (same_words _ _ _ _ (ap (λ (xs : List Dy). map number_spelling (map dyadic_of xs)) c.deref.ensures.value) c.in_ok-append_row.ensures)

pub returns : goal.returns
returns c =
    same_words _ _ _ _ (rows_flat c.args.rows.now)
    (items_words row_of_words c.args.rows.now c.args.text.now.items c.loop-row.text.items c.loop-row.row-index (omega (arith, c.loop-row-test.false)) c.loop-row.invariant)
