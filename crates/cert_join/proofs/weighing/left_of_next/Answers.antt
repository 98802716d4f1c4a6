use Rattle.std.proofs.Common.{◌∙◌}
use Rattle.cert_join.proofs.Passed.{told}
use Rattle.cert_join.proofs.Spots.{ready_text}
use Rattle.cert_join.proofs.weighing.left_of_next.Goals as goal

pub returns-then-is_ready-clause-left : goal.returns-then-is_ready-clause-left
returns-then-is_ready-clause-left c = λ cert r ls b.
    let line = ready_text cert _ ls c.is_ready.new.self (told cert _ c.args.cursor.now c.is_ready.new.self c.is_ready.ensures.same b) (c.is_ready.ensures.ready c.if-is_ready.true) in
    (c.left_of.ensures r (c.text.ensures ∙ line.0), line.1)
