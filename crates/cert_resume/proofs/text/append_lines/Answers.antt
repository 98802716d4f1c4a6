use Rattle.std.proofs.Common.{arith}
use Rattle.cert_resume.proofs.Texts.{one_more_line, all_lines}
use Rattle.cert_resume.proofs.text.append_lines.Goals as goal

pub loop-line-preserved : goal.loop-line-preserved
loop-line-preserved c = one_more_line c.args.lines.now c.args.text.now.items c.loop-line.text.items c.append_line.new.text.items c.loop-line.line-index c.line-item.result
    (omega (arith, c.loop-line-test.true)) c.line-item.is c.loop-line.invariant c.in_ok-append_line.ensures

pub returns : goal.returns
returns c = all_lines c.args.lines.now c.args.text.now.items c.loop-line.text.items c.loop-line.line-index (omega (arith, c.loop-line-test.false)) c.loop-line.invariant
