use Rattle.std.proofs.Common.{◌+◌, ◌-◌, List, [], ◌∷◌, map, ap, sym, ◌∙◌, arith}
use Rattle.std.proofs.lemmas.List.{map-append}
use Rattle.dyadic.specs.Rounding.{Dyadic}
use Rattle.cover_line.specs.Views.{numbers_of}
use Rattle.cert_read.specs.CertLine.{take_rows}
use Rattle.cert_read.specs.Taking.{words_ahead}
use Rattle.cert_read.proofs.Takings.{onto, no_rows_yet, rows_on, rows_end}
use Rattle.cert_read.proofs.squares.Ahead.rows.Goals as goal

pub loop-above-init : goal.loop-above-init
loop-above-init c =
    no_rows_yet c.args.many (words_ahead c.args.self.now)
    ∙ ap (λ (gs : List (List Dyadic)). onto gs (take_rows (c.args.many - 0) (words_ahead c.args.self.now))) (sym (ap (map numbers_of) c.new-rows.ensures.items))

pub loop-above-preserved : goal.loop-above-preserved
loop-above-preserved c =
    let left = take_rows (c.args.many - (c.loop-above.above + 1)) (words_ahead c.dyadics.new.self) in
    c.loop-above.invariant
    ∙ rows_on c.args.many c.loop-above.above (map numbers_of c.loop-above.rows.items) (words_ahead c.loop-above.self) (numbers_of c.in_ok-dyadics.field-0) (words_ahead c.dyadics.new.self)
    (omega (arith, c.loop-above-test.true)) c.in_ok-dyadics.ensures
    ∙ ap (λ (gs : List (List Dyadic)). onto gs left) (sym (ap (map numbers_of) c.in_ok-push.ensures.items ∙ map-append numbers_of c.loop-above.rows.items (c.in_ok-dyadics.field-0 ∷ [])))

pub returns : goal.returns
returns c =
    c.loop-above.invariant
    ∙ rows_end c.args.many c.loop-above.above (map numbers_of c.loop-above.rows.items) (words_ahead c.loop-above.self) (omega (arith, c.loop-above-test.false))
