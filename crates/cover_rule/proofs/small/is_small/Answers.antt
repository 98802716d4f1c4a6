use Rattle.std.proofs.Common.{◌<◌, ◌+◌, ◌∙◌, length, drop, ap, sym, arith, Bool, ◌&&◌}
use Rattle.cover_model.specs.Honest.{is_small, is_small_domain}
use Rattle.ival.specs.SpaceViews.{space_of, domain_of}
use Rattle.cover_rule.proofs.Sides.{small_step}
use Rattle.cover_rule.proofs.small.is_small.Goals as goal

pub returns-then-not-is_small_domain : goal.returns-then-not-is_small_domain
returns-then-not-is_small_domain c =
    let s = space_of c.args.space.now in let i = c.loop-axis.axis in let d = domain_of c.get.result in let w = c.args.bits in
    let inside : i < length s = omega (arith, c.loop-axis-test.true, c.len-axis-end.ensures) in
    sym (c.loop-axis.invariant ∙ small_step w s i d inside ∙
    ap (λ (b : Bool). b && is_small w (drop (i + 1) s)) (ap (is_small_domain w) (sym c.get.ensures) ∙ sym c.is_small_domain.ensures ∙ c.if-not-is_small_domain.true))

pub loop-axis-preserved : goal.loop-axis-preserved
loop-axis-preserved c =
    let s = space_of c.args.space.now in let i = c.loop-axis.axis in let d = domain_of c.get.result in let w = c.args.bits in
    let inside : i < length s = omega (arith, c.loop-axis-test.true, c.len-axis-end.ensures) in
    c.loop-axis.invariant ∙ small_step w s i d inside ∙
    ap (λ (b : Bool). b && is_small w (drop (i + 1) s)) (ap (is_small_domain w) (sym c.get.ensures) ∙ sym c.is_small_domain.ensures ∙ c.if-not-is_small_domain.false)
