use Rattle.cert_join.proofs.RuleWords.{with_number}
use Rattle.cert_join.proofs.line.append_naming.Goals as goal

pub returns-in-Ok : goal.returns-in-Ok
returns-in-Ok c = λ r i e s h.
    let last = c.last_number-named.ensures r i e s h in with_number r i _ _ _ _ _ h last.0 (c.number_by.ensures i last.1) c.in-Ok.ensures
