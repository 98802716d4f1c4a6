use Rattle.std.proofs.Common.{◌+◌, ◌-◌, ℕ, List, ap, sym, ◌∙◌, arith}
use Rattle.cert_read.specs.CertLine.{take_count, take_many}
use Rattle.cert_read.specs.Taking.{words_ahead}
use Rattle.cert_read.proofs.Takings.{onto, nothing_yet, many_on, many_end}
use Rattle.cert_read.proofs.squares.Ahead.counts.Goals as goal

pub loop-init : goal.loop-init
loop-init c =
    nothing_yet take_count c.args.many (words_ahead c.args.self.now)
    ∙ ap (λ (gs : List ℕ). onto gs (take_many take_count (c.args.many - 0) (words_ahead c.args.self.now))) (sym c.new-counts.ensures.items)

pub loop-preserved : goal.loop-preserved
loop-preserved c =
    let left = take_many take_count (c.args.many - (c.loop.counter + 1)) (words_ahead c.count.new.self) in
    c.loop.invariant
    ∙ many_on take_count c.args.many c.loop.counter c.loop.counts.items (words_ahead c.loop.self) c.in_ok-count.field-0 (words_ahead c.count.new.self)
    (omega (arith, c.loop-test.true)) c.in_ok-count.ensures
    ∙ ap (λ (gs : List ℕ). onto gs left) (sym c.in_ok-push.ensures.items)

pub returns : goal.returns
returns c = c.loop.invariant ∙ many_end take_count c.args.many c.loop.counter c.loop.counts.items (words_ahead c.loop.self) (omega (arith, c.loop-test.false))
