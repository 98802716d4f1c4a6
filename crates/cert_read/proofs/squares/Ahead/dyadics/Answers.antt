use Rattle.std.proofs.Common.{◌+◌, ◌-◌, List, [], ◌∷◌, map, ap, sym, ◌∙◌, arith}
use Rattle.std.proofs.lemmas.List.{map-append}
use Rattle.dyadic.specs.Rounding.{Dyadic}
use Rattle.dyadic.specs.Views.{dyadic_of}
use Rattle.cert_read.specs.CertLine.{take_dyadic, take_many}
use Rattle.cert_read.specs.Taking.{words_ahead}
use Rattle.cert_read.proofs.Takings.{onto, nothing_yet, many_on, many_end}
use Rattle.cert_read.proofs.squares.Ahead.dyadics.Goals as goal

pub loop-init : goal.loop-init
loop-init c =
    nothing_yet take_dyadic c.args.many (words_ahead c.args.self.now)
    ∙ ap (λ (gs : List Dyadic). onto gs (take_many take_dyadic (c.args.many - 0) (words_ahead c.args.self.now))) (sym (ap (map dyadic_of) c.new-dyadics.ensures.items))

pub loop-preserved : goal.loop-preserved
loop-preserved c =
    let left = take_many take_dyadic (c.args.many - (c.loop.counter + 1)) (words_ahead c.dyadic.new.self) in
    c.loop.invariant
    ∙ many_on take_dyadic c.args.many c.loop.counter (map dyadic_of c.loop.dyadics.items) (words_ahead c.loop.self) (dyadic_of c.in_ok-dyadic.field-0) (words_ahead c.dyadic.new.self)
    (omega (arith, c.loop-test.true)) c.in_ok-dyadic.ensures
    ∙ ap (λ (gs : List Dyadic). onto gs left) (sym (ap (map dyadic_of) c.in_ok-push.ensures.items ∙ map-append dyadic_of c.loop.dyadics.items (c.in_ok-dyadic.field-0 ∷ [])))

pub returns : goal.returns
returns c = c.loop.invariant ∙ many_end take_dyadic c.args.many c.loop.counter (map dyadic_of c.loop.dyadics.items) (words_ahead c.loop.self) (omega (arith, c.loop-test.false))
