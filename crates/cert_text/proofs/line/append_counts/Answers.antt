use Rattle.std.proofs.Common.{◌<◌, length, arith}
use Rattle.std.proofs.lemmas.List.{get_or_default}
use Rattle.cert_text.proofs.ReadLines.{one_more, all_numbers}
use Rattle.cert_text.proofs.line.append_counts.Goals as goal

pub loop-number-preserved : goal.loop-number-preserved
loop-number-preserved c = one_more c.args.numbers.now c.args.text.now.items c.loop-number.text.items c.append_word_and_count.new.text.items c.loop-number.number-index _
    (omega (arith, c.loop-number-test.true)) (let h : c.loop-number.number-index < length c.args.numbers.now = omega (arith, c.loop-number-test.true) in get_or_default c.args.numbers.now c.loop-number.number-index _ _ h) c.loop-number.invariant c.in_ok-append_word_and_count.ensures.text

pub returns : goal.returns
returns c = all_numbers c.args.numbers.now c.args.text.now.items c.loop-number.text.items c.loop-number.number-index (omega (arith, c.loop-number-test.false)) c.loop-number.invariant
