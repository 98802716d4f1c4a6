use Rattle.std.proofs.Common.{sym, ◌∙◌, ap, ap₂}
use Rattle.interval_model.specs.Space.{real_domain}
use Rattle.ival.specs.SpaceViews.{domain_of}
use Rattle.ival.proofs.Equality.{same_number}
use Rattle.cert_check.proofs.changes.is_same_domain.Goals as goal

pub returns-then-eq : goal.returns-then-eq
returns-then-eq c h =
    ap domain_of c.in-Real.is
    ∙ ap₂ real_domain (same_number c.in-Real.a.low c.in-Real-b.b.low (sym c.eq.ensures ∙ c.if-eq.true)) (same_number c.in-Real.a.high c.in-Real-b.b.high (sym c.eq-then-eq.ensures ∙ h))
    ∙ sym (ap domain_of c.in-Real-b.is)
