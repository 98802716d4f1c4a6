use Rattle.std.proofs.Common.{◌+◌, ◌-◌, ℕ, List, [], ◌∷◌, map, ap, sym, ◌∙◌, arith}
use Rattle.std.proofs.lemmas.List.{map-append}
use Rattle.cover_line.specs.Views.{axes_of}
use Rattle.cert_read.specs.CertLine.{take_monomial, take_many}
use Rattle.cert_read.specs.Taking.{words_ahead}
use Rattle.cert_read.proofs.Takings.{onto, nothing_yet, many_on, many_end}
use Rattle.cert_read.proofs.squares.Ahead.monomials.Goals as goal

pub loop-init : goal.loop-init
loop-init c =
    nothing_yet take_monomial c.args.many (words_ahead c.args.self.now)
    ∙ ap (λ (gs : List (List ℕ)). onto gs (take_many take_monomial (c.args.many - 0) (words_ahead c.args.self.now))) (sym (ap (map axes_of) c.new-monomials.ensures.items))

pub loop-preserved : goal.loop-preserved
loop-preserved c =
    let left = take_many take_monomial (c.args.many - (c.loop.counter + 1)) (words_ahead c.monomial.new.self) in
    c.loop.invariant
    ∙ many_on take_monomial c.args.many c.loop.counter (map axes_of c.loop.monomials.items) (words_ahead c.loop.self) (axes_of c.in_ok-monomial.field-0) (words_ahead c.monomial.new.self)
    (omega (arith, c.loop-test.true)) c.in_ok-monomial.ensures
    ∙ ap (λ (gs : List (List ℕ)). onto gs left) (sym (ap (map axes_of) c.in_ok-push.ensures.items ∙ map-append axes_of c.loop.monomials.items (c.in_ok-monomial.field-0 ∷ [])))

pub returns : goal.returns
returns c = c.loop.invariant ∙ many_end take_monomial c.args.many c.loop.counter (map axes_of c.loop.monomials.items) (words_ahead c.loop.self) (omega (arith, c.loop-test.false))
