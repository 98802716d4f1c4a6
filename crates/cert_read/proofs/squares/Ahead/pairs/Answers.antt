use Rattle.std.proofs.Common.{◌+◌, ◌-◌, ap, sym, ◌∙◌, arith}
use Rattle.cover_line.specs.Line.{Multipliers}
use Rattle.cover_line.specs.Views.{multipliers_of}
use Rattle.cert_read.proofs.Paired.{one_more_pair}
use Rattle.cert_read.specs.CertLine.{take_pair, take_many}
use Rattle.cert_read.specs.Taking.{words_ahead, pair_in, pairs_in}
use Rattle.cert_read.proofs.Takings.{onto, same_fault, fault_told, many_fault, nothing_yet, many_on, many_end}
use Rattle.cert_read.proofs.squares.Ahead.pairs.Goals as goal

pub loop-init : goal.loop-init
loop-init c =
    nothing_yet take_pair c.args.many (words_ahead c.args.self.now)
    ∙ ap (λ (gs : Multipliers). onto gs (take_many take_pair (c.args.many - 0) (words_ahead c.args.self.now))) (sym (ap multipliers_of c.new-pairs.ensures.items))

pub loop-preserved : goal.loop-preserved
loop-preserved c =
    let left = take_many take_pair (c.args.many - (c.loop.counter + 1)) (words_ahead c.pair.new.self) in
    c.loop.invariant
    ∙ many_on take_pair c.args.many c.loop.counter (multipliers_of c.loop.pairs.items) (words_ahead c.loop.self) (pair_in c.in_ok-pair.field-0) (words_ahead c.pair.new.self)
    (omega (arith, c.loop-test.true)) c.in_ok-pair.ensures
    ∙ ap (λ (gs : Multipliers). onto gs left) (sym (ap multipliers_of c.in_ok-push.ensures.items ∙ one_more_pair c.loop.pairs.items c.in_ok-pair.field-0))

pub returns-in_err-pair : goal.returns-in_err-pair
returns-in_err-pair c =
    let fault = c.in_err-pair.field-0.0 in
    let many = c.args.many in
    let have = multipliers_of c.loop.pairs.items in
    let words = words_ahead c.loop.self in
    let all = take_many take_pair many (words_ahead c.args.self.now) in
    fault_told pairs_in all c.from_residual.result fault (words_ahead c.pair.new.self) c.from_residual.ensures
    (same_fault fault all (onto have (take_many take_pair (many - c.loop.counter) words)) c.loop.invariant
    (many_fault fault take_pair many c.loop.counter have words (omega (arith, c.loop-test.true)) c.in_err-pair.ensures))

pub returns : goal.returns
returns c = c.loop.invariant ∙ many_end take_pair c.args.many c.loop.counter (multipliers_of c.loop.pairs.items) (words_ahead c.loop.self) (omega (arith, c.loop-test.false))
