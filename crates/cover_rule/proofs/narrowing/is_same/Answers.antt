use Rattle.std.proofs.Common.{◌≡◌, IsTrue, refl, sym, ◌∙◌, ap₂, true≢false}
use Rattle.dyadic.proofs.Equal.{both_true}
use Rattle.interval_model.specs.Space.{real_domain}
use Rattle.ival.specs.SpaceViews.{domain_of}
use Rattle.ival.specs.contracts.domain.DomainPartialEq.TheImpl as domain_eq
use Rattle.ival.specs.declared.domain.Domain.{Domain}
use Rattle.ival.specs.declared.domain.Domain.TheVariants.{Real, Bool}
use Rattle.ival.specs.declared.domain.Truths.TheVariants.{Either, True, False}
use Rattle.ival.proofs.Equality.{same_number, same_spelled}
use Rattle.cover_rule.proofs.narrowing.is_same.Goals as goal

same-domain : (d e : Domain) → IsTrue ((domain_eq.ghosts).eq d e) → domain_of d ≡ domain_of e
same-domain (Real a) (Real b) h =
    let p = both_true (same_spelled a.low b.low) (same_spelled a.high b.high) h in ap₂ real_domain (same_number a.low b.low p.0) (same_number a.high b.high p.1)
same-domain (Real a) (Bool u) h = absurd (true≢false (sym h))
same-domain (Bool t) (Real b) h = absurd (true≢false (sym h))
same-domain (Bool Either) (Bool Either) h = refl
same-domain (Bool True) (Bool True) h = refl
same-domain (Bool False) (Bool False) h = refl
same-domain (Bool Either) (Bool True) h = absurd (true≢false (sym h))
same-domain (Bool Either) (Bool False) h = absurd (true≢false (sym h))
same-domain (Bool True) (Bool Either) h = absurd (true≢false (sym h))
same-domain (Bool True) (Bool False) h = absurd (true≢false (sym h))
same-domain (Bool False) (Bool Either) h = absurd (true≢false (sym h))
same-domain (Bool False) (Bool True) h = absurd (true≢false (sym h))

pub returns : goal.returns
returns c h = same-domain c.args.domain c.args.other (sym c.eq.ensures ∙ h)
