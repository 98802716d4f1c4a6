use Rattle.std.proofs.Common.{arith}
use Rattle.cert_text.proofs.SessionTexts.{no_parts, next_part, all_parts}
use Rattle.cert_text.proofs.session.append_parts.Goals as goal

pub loop-k-init : goal.loop-k-init
loop-k-init c = no_parts c.args.text.now.items

pub loop-k-preserved : goal.loop-k-preserved
loop-k-preserved c = next_part c.args.books.now c.loop-k.k c.index-books-k.result c.args.text.now.items c.loop-k.text.items c.append_part.new.text.items
    (omega (arith, c.loop-k-test.true)) c.index-books-k.is c.loop-k.invariant c.in_ok-append_part.ensures

pub returns : goal.returns
returns c = all_parts c.args.books.now c.loop-k.k c.args.text.now.items c.loop-k.text.items c.loop-k-test.false c.loop-k.invariant
