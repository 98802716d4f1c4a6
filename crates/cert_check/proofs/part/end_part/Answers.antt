use Rattle.std.proofs.Common.{suc, ap, ◌∙◌}
use Rattle.cert_check.specs.Works.{checks_from}
use Rattle.cert_check.proofs.PartEnds.{not_only, only_part}
use Rattle.cert_check.proofs.Results.{if_ok}
use Rattle.cert_check.proofs.part.end_part.Goals as goal

pub returns-in-None-clause-comes : goal.returns-in-None-clause-comes
returns-in-None-clause-comes c =
    let t = c.args.part.now in
    only_part c.args.s t.problem c.args.value t.values.items c.push.new.self.items c.parted-outcome.result.0 c.in_ok-push.ensures.items c.parted-outcome.ensures.outcome (checks_from t.session (suc t.number))
    (ap (λ o. checks_from o (suc t.number)) c.in-None.is)

pub returns-in-Some-clause-comes : goal.returns-in-Some-clause-comes
returns-in-Some-clause-comes c =
    let t = c.args.part.now in
    if_ok c.next_part.result (λ w h.
    not_only c.args.s t.problem c.args.value t.values.items c.push.new.self.items c.parted-outcome.result.0 c.in_ok-push.ensures.items c.parted-outcome.ensures.outcome (checks_from t.session (suc t.number))
    c.parted-outcome.result.1 c.parted-outcome.ensures.lemmas ∙ h) c.next_part.ensures.comes
