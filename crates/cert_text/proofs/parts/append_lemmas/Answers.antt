use Rattle.std.proofs.Common.{arith}
use Rattle.cert_text.proofs.Items.{lemma_appended}
use Rattle.cert_text.proofs.parts.append_lemmas.Goals as goal

pub loop-i-preserved : goal.loop-i-preserved
loop-i-preserved c = lemma_appended c.args.first c.args.lemmas.now c.args.text.now.items c.loop-i.text.items c.append_lemma.new.text.items c.loop-i.i c.index-lemmas-i.result
    (omega (arith, c.loop-i-test.true)) c.index-lemmas-i.is c.loop-i.invariant c.in_ok-append_lemma.ensures
