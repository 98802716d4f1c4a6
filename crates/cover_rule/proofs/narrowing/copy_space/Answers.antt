use Rattle.std.proofs.Common.{◌≡◌, ◌<◌, ℕ, ◌∙◌, ap, ap₂, sym, subst, arith, length, set}
use Rattle.interval_model.specs.Space.{Domain, Space}
use Rattle.ival.specs.SpaceViews.{domain_of, space_of}
use Rattle.cover_rule.proofs.Axes.{blend, blend_next, blend_end, length_blend}
use Rattle.cover_rule.proofs.narrowing.copy_space.Goals as goal

pub set-requires : goal.set-requires
set-requires c =
    let e = ap length c.loop-axis.invariant in let f = length_blend c.loop-axis.axis (space_of c.args.from.now) (space_of c.args.into.now) in
    omega (arith, c.loop-axis-test.true, c.requires, c.len-axis-end.ensures, e, f)

pub loop-axis-preserved : goal.loop-axis-preserved
loop-axis-preserved c =
    let i = c.loop-axis.axis in let xs = space_of c.args.from.now in let ys = space_of c.args.into.now in
    let h : i < length xs = omega (arith, c.loop-axis-test.true, c.len-axis-end.ensures) in
    let k : i < length ys = omega (arith, h, c.requires) in
    c.set.ensures.axes ∙ ap₂ (λ (s : Space) (d : Domain). set s i d) c.loop-axis.invariant c.get.ensures ∙ blend_next i xs ys (domain_of c.get.result) h k

pub returns : goal.returns
returns c =
    let xs = space_of c.args.from.now in let ys = space_of c.args.into.now in
    let e : c.loop-axis.axis ≡ length xs = omega (arith, c.loop-axis-test.false, c.loop-axis.auto.axis-end, c.len-axis-end.ensures) in
    c.loop-axis.invariant ∙ subst (λ (n : ℕ). blend n xs ys ≡ xs) (sym e) (blend_end xs ys c.requires)
