use Rattle.std.proofs.Common.{◌≡◌, ◌<◌, ℕ, ◌∙◌, ap, ap₂, sym, subst, arith, length, map, set}
use Rattle.interval_model.specs.Space.{Domain, Space, middle_domain}
use Rattle.ival.specs.SpaceViews.{domain_of, space_of}
use Rattle.ival.proofs.Lists.{middles, middles_next, middles_end, length_middles}
use Rattle.ival.proofs.space.Space.middle.Goals as goal

pub set-requires : goal.set-requires
set-requires c =
    let e = ap length c.loop-axis.invariant.0 in let f = length_middles c.loop-axis.axis (space_of c.args.self.now) (space_of c.args.into.now) in
    omega (arith, c.loop-axis-test.true, c.requires, c.len-axis-end.ensures, e, f)

pub loop-axis-preserved : goal.loop-axis-preserved
loop-axis-preserved c =
    let i = c.loop-axis.axis in let xs = space_of c.args.self.now in let ys = space_of c.args.into.now in
    let h : i < length xs = omega (arith, c.loop-axis-test.true, c.len-axis-end.ensures) in
    let k : i < length ys = omega (arith, h, c.requires) in (
      c.set.ensures.axes ∙ ap₂ (λ (s : Space) (d : Domain). set s i d) c.loop-axis.invariant.0 (c.middle_domain.ensures ∙ ap middle_domain c.get.ensures) ∙ middles_next i xs ys (domain_of c.get.result) h k,
      c.set.ensures.room ∙ c.loop-axis.invariant.1,
    )

pub returns-clause-axes : goal.returns-clause-axes
returns-clause-axes c =
    let xs = space_of c.args.self.now in let ys = space_of c.args.into.now in
    let e : c.loop-axis.axis ≡ length xs = omega (arith, c.loop-axis-test.false, c.loop-axis.auto.axis-end, c.len-axis-end.ensures) in
    c.loop-axis.invariant.0 ∙ subst (λ (n : ℕ). middles n xs ys ≡ map middle_domain xs) (sym e) (middles_end xs ys c.requires)
