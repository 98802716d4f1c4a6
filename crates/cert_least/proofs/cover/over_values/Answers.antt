use Rattle.std.proofs.Common.{ap, sym, ◌∙◌, refl}
use Rattle.interval_model.specs.Interval.{Interval, within}
use Rattle.cert_model.specs.Least.{not_below}
use Rattle.cert_check.specs.declared.fault.CertFault.TheVariants.{OverFails}
use Rattle.cert_least.specs.Phases.{lower_of, searched_by}
use Rattle.cert_least.proofs.Lines.{over_on, over_fails}
use Rattle.cert_least.proofs.cover.over_values.Goals as goal

pub returns-then-is_over : goal.returns-then-is_over
returns-then-is_over c a d space h fits k e =
    let w = c.args.scope in
    over_on a w d fits space k
    (ap (λ (i : Interval). within i (not_below (lower_of w))) (sym e) ∙ sym c.is_over.ensures ∙ c.if-is_over.true)
    c.give.new.checker c.give.result (c.give.ensures (searched_by a w) a.bound d h)

pub returns : goal.returns
returns c a d space h fits k e =
    let w = c.args.scope in
    over_fails a w d space k
    (ap (λ (i : Interval). within i (not_below (lower_of w))) (sym e) ∙ sym c.is_over.ensures ∙ c.if-is_over.false)
    (OverFails 0) (record { line = 0; told = refl })
