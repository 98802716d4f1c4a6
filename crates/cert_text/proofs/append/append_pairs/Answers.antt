use Rattle.std.proofs.Common.{arith}
use Rattle.cert_text.proofs.Items.{next_pair}
use Rattle.cert_text.proofs.append.append_pairs.Goals as goal

pub loop-pair-preserved : goal.loop-pair-preserved
loop-pair-preserved c = next_pair c.args.pairs.now c.args.text.now.items c.loop-pair.text.items c.append_pair.new.text.items c.loop-pair.pair-index c.pair-item.result
    (omega (arith, c.loop-pair-test.true)) c.pair-item.is c.loop-pair.invariant c.in_ok-append_pair.ensures
