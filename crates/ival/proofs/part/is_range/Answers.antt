use Rattle.std.proofs.Common.{◌∙◌, ap, ap₂, sym, true≢false}
use Rattle.interval_model.specs.Space.{real_domain}
use Rattle.dyadic.specs.Views.{dyadic_of}
use Rattle.ival.specs.SpaceViews.{domain_of}
use Rattle.ival.proofs.Equality.{same_number, spelled_so, same_ends}
use Rattle.ival.proofs.part.is_range.Goals as goal

pub returns-then-eq : goal.returns-then-eq
returns-then-eq c =
    let own = c.in-Real.own in let range = c.args.range in (
      λ h. ap domain_of c.in-Real.is ∙ ap₂ real_domain (same_number own.low range.low (sym c.eq.ensures ∙ c.if-eq.true)) (same_number own.high range.high (sym c.eq-then-eq.ensures ∙ h)),
      λ e. c.eq-then-eq.ensures
          ∙ spelled_so own.high range.high (same_ends (dyadic_of own.low) (dyadic_of own.high) (dyadic_of range.low) (dyadic_of range.high) (sym (ap domain_of c.in-Real.is) ∙ e)).1,
    )

pub returns-else-eq : goal.returns-else-eq
returns-else-eq c =
    let own = c.in-Real.own in let range = c.args.range in (
      λ h. absurd (true≢false (sym h ∙ c.if-eq.false)),
      λ e. c.eq.ensures ∙ spelled_so own.low range.low (same_ends (dyadic_of own.low) (dyadic_of own.high) (dyadic_of range.low) (dyadic_of range.high) (sym (ap domain_of c.in-Real.is) ∙ e)).0,
    )
