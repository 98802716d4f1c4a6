use Rattle.std.proofs.Common.{sym}
use Rattle.cert_join.proofs.NextLines.{passes_next}
use Rattle.cert_join.proofs.joiner.copy_next.Goals as goal

pub returns : goal.returns
returns c = λ cert ls b.
    let x = passes_next cert ls c.args.cursor.now c.is_ready.new.self b c.is_ready.ensures.same c.in-Some.line.now c.pass.new.self (c.is_ready.ensures.ready c.if-not-is_ready.false)
    (sym c.in-Some.ensures) c.pass.ensures in
    (c.in-Some.line.now, x.0, x.1, c.in-Ok.ensures, x.2)
